use Rattle.std.proofs.Common.{◌≤◌}
use Rattle.timed_calls.proofs.host.Host.job_requests.Given as goal

abbrev pub invariant-turns : goal.invariant-turns
invariant-turns l = l.filled ≤ l.counter
