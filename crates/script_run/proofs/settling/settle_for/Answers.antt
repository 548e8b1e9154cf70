use Rattle.std.proofs.lemmas.Result.{on_ok_weaker}
use Rattle.script_run.proofs.Waits.{settled_there}
use Rattle.script_run.proofs.settling.settle_for.Goals as goal

pub returns-clause-there : goal.returns-clause-there
returns-clause-there c =
    on_ok_weaker c.settle_jobs.result
    (λ settles. settled_there c.args.runner.now c.args.id settles.0 c.settle_jobs.new.runner settles.1) c.settle_jobs.ensures.settles
