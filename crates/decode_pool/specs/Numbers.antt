-- The numbers of the faults of an end.
use Rattle.std.specs.Prelude.{ℕ}
use Rattle.decode_pool.specs.declared.faults.FinishFault.{FinishFault}
use Rattle.decode_pool.specs.declared.faults.FinishFault.TheVariants as faults

-- the number of a fault
abbrev pub number_of : FinishFault → ℕ
number_of faults.SeatMissing = 1
number_of (faults.SeatDisagrees seat number) = 2
number_of faults.Memory = 3
number_of faults.NotAudited = 4
