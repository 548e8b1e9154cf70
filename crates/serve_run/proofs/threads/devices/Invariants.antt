use Rattle.std.proofs.Common.{◌≡◌, length}
use Rattle.serve_run.proofs.threads.devices.Given as goal

abbrev pub invariant-loop : goal.invariant-loop
invariant-loop l = length l.made.items ≡ l.counter
