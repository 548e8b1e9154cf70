-- The numbers of the faults of reference lists.
use Rattle.std.specs.Prelude.{ℕ}
use Rattle.slice_decoding.specs.declared.ref_lists.fault.ListFault.{ListFault}
use Rattle.slice_decoding.specs.declared.ref_lists.fault.ListFault.TheVariants.{OrderTie, NoReference, BadModification}

-- the number that stands for a fault
abbrev pub number_of : ListFault → ℕ
number_of OrderTie = 1
number_of NoReference = 2
number_of BadModification = 3
