use Rattle.std.proofs.Common.{◌≤◌, List}
use Rattle.stand_in_session.specs.declared.replies.TakenJob.{TakenJob}
use Rattle.stand_in_session.specs.Machines.{Machine}
use Rattle.script_run.specs.Settling.{Settles}
use Rattle.script_run.proofs.settling.settle_jobs.Given as goal

abbrev pub invariant-loop : goal.invariant-loop
invariant-loop l = record {
  lands : (jobs : List TakenJob) (new : Machine) → Settles l.fn.unit l.runner jobs new
      → (all : List TakenJob) × Settles l.fn.unit l.fn.runner all new;
  given : l.counter ≤ l.runner.jobs;
}
