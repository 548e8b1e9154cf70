use Rattle.std.proofs.Common.{◌∙◌, inr}
use Rattle.std.proofs.lemmas.Option.{IfSome_then}
use Rattle.script_run.proofs.shared.run.script_with.Goals as goal

pub returns-clause-stops : goal.returns-clause-stops
returns-clause-stops g c failure =
    let stops = IfSome_then (g.I.Read.remaining c.args.script.text) c.in-Ok.ensures
    (λ bytes same. inr (rw (c.as_slice.ensures.value ∙ same) at c.in-Err-run_text.ensures.stops)) in
    (c.in-Err-run_text.fault, stops, rw c.failed-in-Err-run_text.ensures c.say_run_fault-in-Err-run_text.ensures)
