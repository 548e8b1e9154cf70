use Rattle.cli.proofs.Unopened.{run-unopened}
use Rattle.cli.proofs.running.run_named.Goals as goal

pub returns-in-Err : goal.returns-in-Err
returns-in-Err g c =
    rw c.failed.ensures (run-unopened _ _ _ _ _ _ _ _ c.args.options.name _ c.args.options.cache c.args.options.hex c.in-Err.fault c.say_input_fault.ensures)
