use Rattle.std.proofs.Common.{ap, ◌∙◌}
use Rattle.unit_outcomes.specs.declared.outcome.Outcome.TheVariants.{Fault}
use Rattle.request_core.proofs.Readings.{step_faulted, step_found}
use Rattle.request_core.specs.StepResults.{step_in}
use Rattle.request_core.specs.Readings.{ReadUnit}
use Rattle.request_core.specs.States.{FoldState}
use Rattle.request_core.proofs.reading.UnitRead.step.Goals as goal

pub returns-in-Ok : goal.returns-in-Ok
returns-in-Ok c = λ before unit is.
    step_found before c.args.id unit c.args.self.now is (step_in c.in-Ok.step) (rw c.in-Ok.is at c.planned.ensures)

pub returns-in_ok-copy-in-Err-Fault : goal.returns-in_ok-copy-in-Err-Fault
returns-in_ok-copy-in-Err-Fault c = λ before unit is.
    let fault = c.in-Err-Fault.fault in
    let says = rw (c.in-Err-Fault.is, c.in-Err-Fault.field-0-is) at c.planned.ensures in
    let own = c.in_ok-copy-in-Err-Fault.ensures ∙ ap (λ (read : ReadUnit). read.state) c.self.view_is in
    ap (λ (state : FoldState). (state, Fault fault)) own ∙ step_faulted before c.args.id unit c.args.self.now is fault says
