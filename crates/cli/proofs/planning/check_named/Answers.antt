use Rattle.cli.proofs.Unopened.{check-unopened}
use Rattle.cli.proofs.planning.check_named.Goals as goal

pub returns-in-Err : goal.returns-in-Err
returns-in-Err g c =
    rw c.failed.ensures (check-unopened _ _ _ _ _ _ _ _ c.args.name.now c.args.json c.in-Err.fault c.say_input_fault.ensures)
