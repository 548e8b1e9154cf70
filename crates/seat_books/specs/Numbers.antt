-- The numbers of an audit's faults.
use Rattle.std.specs.Prelude.{ℕ}
use Rattle.seat_books.specs.declared.faults.AuditFault.{AuditFault}
use Rattle.seat_books.specs.declared.faults.AuditFault.TheVariants as faults

-- the number of a fault
abbrev pub number_of : AuditFault → ℕ
number_of (faults.SeatDisagrees seat number) = 1
number_of faults.Memory = 2
