-- The numbers of the faults of marking.
use Rattle.std.specs.Prelude.{ℕ}
use Rattle.slice_decoding.specs.declared.ref_marking.fault.MarkFault.{MarkFault}
use Rattle.slice_decoding.specs.declared.ref_marking.fault.MarkFault.TheVariants.{BadMarking, NoShortTerm, TooManyReferences}

-- the number that stands for a fault
abbrev pub number_of : MarkFault → ℕ
number_of BadMarking = 1
number_of NoShortTerm = 2
number_of TooManyReferences = 3
