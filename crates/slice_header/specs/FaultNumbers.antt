-- The numbers of the faults of a slice header.
use Rattle.std.specs.Prelude.{ℕ}
use Rattle.slice_header.specs.declared.fault.HeaderFault.{HeaderFault}
use Rattle.slice_header.specs.declared.fault.HeaderFault.TheVariants.{Cut, Value, Memory}

-- the number that stands for a fault
abbrev pub number_of : HeaderFault → ℕ
number_of Cut = 1
number_of Value = 2
number_of Memory = 3
