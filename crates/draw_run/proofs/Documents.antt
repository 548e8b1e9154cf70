-- The document of a stream that was folded.
use Rattle.std.proofs.Common.{◌≡◌, ◌∙◌, ℕ, ◌++◌, List, [], length, false, Option, ap, subst, sym}
use Rattle.std.proofs.lemmas.List.{append-nil}
use Rattle.unit_outcomes.specs.InDoubt.{AreDoubts, IdsDiffer}
use Rattle.unit_outcomes.specs.SeenUnits.{SeenUnit}
use Rattle.output_order.specs.OutputOrder.{positions_of}
use Rattle.plan_stream.proofs.Positions.{same_positions}
use Rattle.plan_stream.proofs.Streams.{length-numbered_from}
use Rattle.plan_stream.proofs.UnitTexts.{length-outcomes_of}
use Rattle.plan_stream.specs.Gathering.{IsFoldOfStream}
use Rattle.plan_stream.specs.Streams.{numbered_from}
use Rattle.request_core.specs.Fold.{outcomes_of}
use Rattle.stream_session.specs.Doubting.{seen_in}
use Rattle.stream_svg.specs.Pages.{document_text}
use Rattle.stream_svg.specs.declared.writing.Caption.{Caption}
use Rattle.stream_svg.specs.declared.layout.Layout.{Layout}
use Rattle.stream_svg.specs.declared.unit.DrawnUnit.{DrawnUnit}
use Rattle.draw_run.specs.Chosen.{chosen, kept_from}
use Rattle.draw_run.specs.Drawings.{IsDrawn}
use Rattle.draw_run.specs.Folds.{IsFoldOf}
use Rattle.draw_run.specs.Layouts.{IsLaidOut}
use Rattle.draw_run.specs.Shown.{AreShown}
use Rattle.draw_run.specs.declared.choice.Choice.{Choice}
use Rattle.draw_run.specs.declared.drawn_fold.DrawnFold.{DrawnFold}
use Rattle.draw_run.specs.declared.drawn_fold.KeptUnit.{KeptUnit}
use Rattle.draw_run.proofs.FoldSteps.{count_is}
use Rattle.draw_run.proofs.Seen.{ids_differ, length-seen}

pub is-drawn : (first : DrawnFold) (text : List ℕ) (fold : DrawnFold) (positions : List (Option ℕ)) (units : List DrawnUnit)
    (captions : List Caption) (layout : Layout) (document : List ℕ) → IsFoldOfStream (IsFoldOf first) text fold
    → positions ≡ positions_of fold.outcomes.items → AreShown positions fold.doubts.items fold.kept.items units captions
    → IsLaidOut units layout → document ≡ document_text layout units captions (length fold.outcomes.items) false
    → IsDrawn first.choice.from first.choice.units text document
is-drawn first text fold positions units captions layout document is places shown laid_out document_is =
    let parts = is.parts in
    let outcomes = outcomes_of (numbered_from 1 parts) in
    let seen = seen_in (numbered_from 1 parts) in
    let same : positions ≡ positions_of outcomes = places ∙ ap positions_of is.folded.outcomes_are ∙ same_positions outcomes in
    let long : length seen ≡ length parts =
    length-seen (numbered_from 1 parts) outcomes (sym (length-outcomes_of (numbered_from 1 parts))) ∙ length-numbered_from 1 parts in
    let differ : IdsDiffer (seen ++ []) = subst IdsDiffer (sym (append-nil seen)) (ids_differ parts outcomes) in
    let told = is.folded.walked.doubts_are [] differ in
    record {
      parts = parts;
      stream = is.stream;
      bounded = is.bounded;
      doubts = fold.doubts.items;
      doubts_are = subst (λ (n : ℕ). AreDoubts seen 0 n fold.doubts.items) long
          (subst (λ (units : List SeenUnit). AreDoubts units 0 (length seen) fold.doubts.items) (append-nil seen) told);
      drawn = units;
      captions = captions;
      shown = subst (λ (choice : Choice). AreShown (positions_of outcomes) fold.doubts.items
          (chosen choice.from choice.units (kept_from 1 outcomes)) units captions) is.folded.choice_is
          (subst (λ (kept : List KeptUnit). AreShown (positions_of outcomes) fold.doubts.items kept units captions) is.folded.kept_are
          (subst (λ (p : List (Option ℕ)). AreShown p fold.doubts.items fold.kept.items units captions) same shown));
      layout = layout;
      laid_out = laid_out;
      document_is = document_is ∙ ap (λ (n : ℕ). document_text layout units captions n false) (count_is first parts fold is.folded);
    }
