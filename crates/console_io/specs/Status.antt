-- The exit status of a run.
use Rattle.std.specs.Prelude.{ℕ}
use Rattle.console_io.specs.declared.status.Status.{Status}
use Rattle.console_io.specs.declared.status.Status.TheVariants.{Success, Failure, Usage}

-- the number that the system gets
abbrev pub number_of : Status → ℕ
number_of Success = 0
number_of Failure = 1
number_of Usage = 2
