use Rattle.std.proofs.Common.{◌≡◌, ◌∙◌, ap, ap₂, sym, subst, length, arith}
use Rattle.std.proofs.lemmas.List.{length-map}
use Rattle.std.proofs.lemmas.Result.{IfOk-weaker}
use Rattle.unit_outcomes.specs.SeenUnits.{seen_units}
use Rattle.unit_outcomes.specs.InDoubt.{AreDoubts, IdsDiffer}
use Rattle.unit_outcomes.specs.References.{is_of_reference}
use Rattle.unit_printing.specs.Seen.{stream_seen}
use Rattle.unit_printing.proofs.SeenIds.{ids_differ, length_ids}
use Rattle.unit_printing.proofs.json.doubts.doubts_of_units.Goals as goal

pub doubts-requires-clause-references : goal.doubts-requires-clause-references
doubts-requires-clause-references c =
    let units = c.args.units.now in
    let ids_are = ap length c.deref.ensures.value ∙ (ap length c.in_ok-ids.ensures ∙ length_ids 1 (length units)) in
    ap length c.deref-2.ensures.value ∙ (ap length c.in_ok-references.ensures ∙ (length-map units is_of_reference ∙ sym ids_are))

pub doubts-requires-clause-outcomes : goal.doubts-requires-clause-outcomes
doubts-requires-clause-outcomes c =
    let units = c.args.units.now in
    let ids_are = ap length c.deref.ensures.value ∙ (ap length c.in_ok-ids.ensures ∙ length_ids 1 (length units)) in
    c.requires.outcomes ∙ sym ids_are

pub doubts-requires-clause-range : goal.doubts-requires-clause-range
doubts-requires-clause-range c =
    let units = c.args.units.now in
    let ids_are = ap length c.deref.ensures.value ∙ (ap length c.in_ok-ids.ensures ∙ length_ids 1 (length units)) in
    omega (arith, ids_are)

pub returns : goal.returns
returns c =
    let units = c.args.units.now in
    let outcomes = c.args.outcomes.now in
    let seen_is : seen_units c.deref.result.now c.deref-2.result.now outcomes ≡ stream_seen units outcomes =
    ap₂ (λ ids references. seen_units ids references outcomes) (c.deref.ensures.value ∙ c.in_ok-ids.ensures)
    (c.deref-2.ensures.value ∙ c.in_ok-references.ensures) in
    IfOk-weaker c.doubts.result _ _ (λ doubt are.
    subst (λ seen. IdsDiffer seen → AreDoubts seen 0 (length units) doubt.items) seen_is are (ids_differ units outcomes)) c.doubts.ensures
