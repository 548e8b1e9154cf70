use Rattle.console_io.specs.declared.input.InputFault.TheVariants as input
use Rattle.check_report.specs.Ends.{end_text}
use Rattle.check_report.proofs.Ends.{ends-unread}
use Rattle.check_report.proofs.running.check_on.Goals as goal

pub returns-in-Ok-from_vec-clause-told : goal.returns-in-Ok-from_vec-clause-told
returns-in-Ok-from_vec-clause-told g c failure =
    let ends = c.check_text.ensures.ends failure in
    (end_text c.args.name.now ends.0, ends.2 c.args.name.now)

pub returns-in-Ok-clause-ends : goal.returns-in-Ok-clause-ends
returns-in-Ok-clause-ends g c failure =
    ends-unread (g.R.Read.remaining c.args.reader.now) c.args.name.now c.failed.result.told _ _ _ _ input.Memory
    (rw c.failed.ensures c.say_print_fault.ensures)

pub returns-clause-ends : goal.returns-clause-ends
returns-clause-ends g c failure =
    ends-unread (g.R.Read.remaining c.args.reader.now) c.args.name.now c.failed-in-Err.result.told _ _ _ _ c.in-Err.fault
    (rw c.failed-in-Err.ensures c.say_input_fault.ensures)
