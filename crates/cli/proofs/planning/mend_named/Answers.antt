use Rattle.cli.proofs.Unopened.{mend-unopened}
use Rattle.cli.proofs.planning.mend_named.Goals as goal

pub returns-in-Err : goal.returns-in-Err
returns-in-Err g c =
    rw c.failed.ensures (mend-unopened _ _ _ _ _ _ _ _ c.args.name.now c.in-Err.fault c.say_input_fault.ensures)
