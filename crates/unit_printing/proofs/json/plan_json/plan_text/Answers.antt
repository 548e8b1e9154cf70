use Rattle.console_io.specs.declared.chunks.PrintFault.TheVariants as print
use Rattle.unit_printing.specs.Ends.{unprinted}
use Rattle.unit_printing.proofs.json.plan_json.plan_text.Goals as goal

pub returns-clause-ends : goal.returns-clause-ends
returns-clause-ends g c failure =
    (unprinted print.Memory, (λ e. cc), λ name. rw c.failed.ensures c.say_print_fault.ensures)
