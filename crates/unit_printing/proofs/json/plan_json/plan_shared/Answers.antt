use Rattle.std.proofs.Common.{Err, ap}
use Rattle.console_io.specs.declared.chunks.PrintFault.TheVariants as print
use Rattle.unit_printing.specs.Ends.{refused, unprinted}
use Rattle.unit_printing.proofs.json.plan_json.plan_shared.Goals as goal

pub returns-in-Ok-clause-ends : goal.returns-in-Ok-clause-ends
returns-in-Ok-clause-ends g c failure =
    (unprinted c.in-Err.fault, (λ e. c.in-Err.ensures.refused (ap Err e)), λ name. rw c.failed.ensures c.say_print_fault.ensures)

pub returns-in-Ok-print_line-clause-ends : goal.returns-in-Ok-print_line-clause-ends
returns-in-Ok-print_line-clause-ends g c failure =
    let read = rw c.in-Err-Refused.field-0-is at c.in-Err-Refused.ensures.read in
    let said = rw c.of_refusal-line.ensures at c.in-Ok-print_line.ensures.ok in
    (refused c.in-Err-Refused.refusal, (read, said), λ name. rw c.failed-in-Ok-print_line.ensures c.say_nothing.ensures)

pub returns-in-Err-Refused-clause-ends : goal.returns-in-Err-Refused-clause-ends
returns-in-Err-Refused-clause-ends g c failure = (
  unprinted c.in-Err-print_line.fault,
  (λ e. c.in-Err-print_line.ensures.refused (ap Err e)),
  λ name. rw c.failed-in-Err-print_line.ensures c.say_print_fault-in-Err-print_line.ensures,
)

pub returns-clause-ends : goal.returns-clause-ends
returns-clause-ends g c failure =
    (unprinted print.Memory, (λ e. cc), λ name. rw c.failed-in-Err-Memory.ensures c.say_print_fault-in-Err-Memory.ensures)
