use Rattle.std.proofs.Common.{◌∙◌, ap, sym, length}
use Rattle.std.proofs.lemmas.List.FromFn.{length-map-range_with_len}
use Rattle.std.proofs.lemmas.Result.{on_ok_weaker}
use Rattle.output_order.specs.OutputOrder.{position_at}
use Rattle.unit_printing.proofs.FoldSteps.{length-fold}
use Rattle.unit_printing.proofs.SaidLines.{says-stream}
use Rattle.unit_printing.proofs.json.printing.print_stream.Goals as goal

pub doubts_of_units-requires-clause-outcomes : goal.doubts_of_units-requires-clause-outcomes
doubts_of_units-requires-clause-outcomes g c =
    ap length (c.deref-2.ensures.value ∙ c.in_ok-outcomes.ensures) ∙ length-fold c.args.units.now

pub print_units-requires-clause-positions : goal.print_units-requires-clause-positions
print_units-requires-clause-positions g c =
    let outcomes = c.deref.result.now in
    ap length c.deref-4.ensures.value
    ∙ (ap length c.in_ok-positions.ensures ∙ (length-map-range_with_len (position_at outcomes) 0 (length outcomes)
    ∙ ap length (c.deref.ensures.value ∙ sym c.deref-3.ensures.value)))

pub print_units-requires-clause-doubts : goal.print_units-requires-clause-doubts
print_units-requires-clause-doubts g c =
    ap length c.deref-5.ensures.value
    ∙ (c.in_ok-doubts.ensures.long ∙ sym (ap length (c.deref-3.ensures.value ∙ c.in_ok-outcomes.ensures) ∙ length-fold c.args.units.now))

pub print_units-requires-clause-few : goal.print_units-requires-clause-few
print_units-requires-clause-few g c =
    rw (c.deref-3.ensures.value, c.in_ok-outcomes.ensures, length-fold c.args.units.now) c.requires

pub returns-clause-ok : goal.returns-clause-ok
returns-clause-ok g c =
    on_ok_weaker c.print_units.result (says-stream g.J.Encoder.says c.args.form.mode c.args.units.now c.deref-3.result.now
    c.deref-4.result.now c.deref-5.result.now _ _ (c.deref-3.ensures.value ∙ c.in_ok-outcomes.ensures)
    (c.deref-4.ensures.value ∙ (rw (c.deref.ensures.value, c.in_ok-outcomes.ensures) at c.in_ok-positions.ensures))
    (rw (c.deref-2.ensures.value, c.in_ok-outcomes.ensures, ← c.deref-5.ensures.value) at c.in_ok-doubts.ensures)) c.print_units.ensures.ok
