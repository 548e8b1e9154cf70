use Rattle.console_io.specs.declared.chunks.PrintFault.TheVariants as print
use Rattle.check_report.specs.Ends.{unprinted}
use Rattle.check_report.proofs.running.check_text.Goals as goal

pub returns-in-Ok-clause-ends : goal.returns-in-Ok-clause-ends
returns-in-Ok-clause-ends g c failure =
    (unprinted c.in-Err-print.fault, (λ e. c.in-Err-print.ensures e), λ name. rw c.failed-in-Err-print.ensures c.say_print_fault.ensures)

pub returns-clause-ends : goal.returns-clause-ends
returns-clause-ends g c failure =
    (unprinted print.Memory, (λ e. cc), λ name. rw c.failed-in-Err.ensures c.say_print_fault-in-Err.ensures)
