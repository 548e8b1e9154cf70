use Rattle.cli.proofs.Unopened.{plan-unopened}
use Rattle.cli.proofs.planning.plan_named.Goals as goal

pub returns-in-Err : goal.returns-in-Err
returns-in-Err g c =
    rw c.failed.ensures (plan-unopened _ _ _ _ _ _ _ _ c.args.name.now c.in-Err.fault c.say_input_fault.ensures)
