use Rattle.cli.proofs.Unopened.{plan_json-unopened}
use Rattle.cli.proofs.planning.plan_json_named.Goals as goal

pub returns-in-Err : goal.returns-in-Err
returns-in-Err g c =
    rw c.failed.ensures (plan_json-unopened _ _ _ _ _ _ _ _ c.args.name.now c.args.mode c.in-Err.fault c.say_input_fault.ensures)
