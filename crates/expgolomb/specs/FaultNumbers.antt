-- The numbers of the refusals of a code.
use Rattle.std.specs.Prelude.{ℕ}
use Rattle.expgolomb.specs.declared.fault.CodeFault.{CodeFault}
use Rattle.expgolomb.specs.declared.fault.CodeFault.TheVariants.{Cut, TooLong}

-- the number that stands for a refusal
abbrev pub number_of : CodeFault → ℕ
number_of Cut = 1
number_of TooLong = 2
