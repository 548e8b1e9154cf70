use Rattle.cli.proofs.Unopened.{audit-unopened}
use Rattle.cli.proofs.running.audit_named.Goals as goal

pub returns-in-Err : goal.returns-in-Err
returns-in-Err g c =
    rw c.failed.ensures (audit-unopened _ _ _ _ _ _ _ _ c.args.options.name c.args.workers.count c.args.options.cache c.in-Err.fault c.say_input_fault.ensures)
