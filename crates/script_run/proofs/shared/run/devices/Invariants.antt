use Rattle.std.proofs.Common.{◌≡◌, length}
use Rattle.script_run.proofs.shared.run.devices.Given as goal

abbrev pub invariant-loop : goal.invariant-loop
invariant-loop l = length l.made.items ≡ l.counter
