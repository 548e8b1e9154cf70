use Rattle.cli.proofs.Unopened.{draw-unopened}
use Rattle.cli.proofs.running.draw_named.Goals as goal

pub returns-in-Err : goal.returns-in-Err
returns-in-Err g c =
    rw c.failed.ensures (draw-unopened _ _ _ _ _ _ _ _ c.args.name.now c.args.choice.from c.args.choice.units c.in-Err.fault c.say_input_fault.ensures)
