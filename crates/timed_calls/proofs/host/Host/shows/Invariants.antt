use Rattle.std.proofs.Common.{◌≤◌}
use Rattle.timed_calls.proofs.host.Host.shows.Given as goal

abbrev pub invariant-loop-turn : goal.invariant-loop-turn
invariant-loop-turn l = l.ready ≤ l.turn
