-- Faults that are read or that memory shows.
use Rattle.std.proofs.Common.{◌≡◌, Result, Err}
use Rattle.slice_header.specs.declared.fault.HeaderFault.{HeaderFault}
use Rattle.slice_header.specs.declared.fault.HeaderFault.TheVariants.{Cut, Value, Memory}
use Rattle.slice_header.specs.HeaderAnswer.{Refuses}

-- a fault after structures that were read
pub refuses_is : {A : Type 0} (e : HeaderFault) (read : Result A HeaderFault) → read ≡ Err e → Refuses e read
refuses_is Cut read is = is
refuses_is Value read is = is
refuses_is Memory read is = tt

pub refuses_all : {A B : Type 0} (e : HeaderFault) (r : Result A HeaderFault) (read : Result B HeaderFault) → ((d : HeaderFault) → r ≡ Err d → read ≡ Err d) → Refuses e r → Refuses e read
refuses_all Cut r read all is = all Cut is
refuses_all Value r read all is = all Value is
refuses_all Memory r read all is = tt
