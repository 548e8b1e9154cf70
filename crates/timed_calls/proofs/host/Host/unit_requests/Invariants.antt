use Rattle.std.proofs.Common.{◌≤◌}
use Rattle.timed_calls.proofs.host.Host.unit_requests.Given as goal

abbrev pub invariant-loop-turn : goal.invariant-loop-turn
invariant-loop-turn l = l.filled ≤ l.turn
