use Rattle.std.proofs.Common.{◌≡◌, ◌∙◌, ◌≤◌, List, ℕ, length, take, drop, filter_map, ap, ap₂, subst, sym}
use Rattle.std.specs.List.{zip}
use Rattle.unit_outcomes.specs.InDoubt.{AreDoubts}
use Rattle.unit_outcomes.specs.declared.doubts.walk.Doubt.{Doubt}
use Rattle.stream_edits.specs.Streams.{ids_of}
use Rattle.stream_session.specs.Doubting.{seen_in}
use Rattle.serve_answers.specs.declared.unit_answers.UnitFlags.{UnitFlags}
use Rattle.serve_calls.specs.Answering.{AreToldFrom, unit_in}
use Rattle.serve_calls.proofs.Pages.{told_from}
use Rattle.serve_calls.proofs.questions.units.Goals as goal

pub answers-requires : goal.answers-requires
answers-requires c =
    let seen = seen_in c.args.session.now.register.stream in
    let first = c.page-first.result.0 in
    let count = length c.page-first.result.1.now in
    let doubts : AreDoubts seen first count c.deref.result.now =
    subst (λ (them : List Doubt). AreDoubts seen first count them) (sym c.deref.ensures.value) c.in_ok-doubts.ensures in
    ap length c.as_slice.ensures.value ∙ (c.in_ok-told.ensures first doubts).long

pub returns : goal.returns
returns c =
    let machine = c.args.session.now in
    let stream = machine.register.stream in
    let seen = seen_in stream in
    let ids = ids_of stream in
    let from = c.args.from in
    let count = c.args.count in
    let first = c.page-first.result.0 in
    let told = c.in_ok-told.told.items in
    let doubts : List Doubt = c.deref.result.now in
    let page : c.page-first.result.1.now ≡ take count (drop from ids) = rw c.ids.ensures at c.page-first.ensures.page in
    let begins : from ≤ length ids → first ≡ from = rw c.ids.ensures at c.page-first.ensures.first in
    let here : AreDoubts seen first (length c.page-first.result.1.now) doubts =
    subst (λ (them : List Doubt). AreDoubts seen first (length c.page-first.result.1.now) them) (sym c.deref.ensures.value) c.in_ok-doubts.ensures in
    let there : AreDoubts seen from (length (take count (drop from ids))) doubts =
    told_from seen ids from count first doubts begins
    (subst (λ (them : List ℕ). AreDoubts seen first (length them) doubts) page here) in
    record {
      told = told;
      are_told = subst (λ (them : List ℕ). AreToldFrom machine from (length them) them told) page
          (c.in_ok-told.ensures from (subst (λ (them : List ℕ). AreDoubts seen from (length them) doubts) (sym page) there));
      are = c.new.ensures
          ∙ (c.in_ok-answers.ensures
          ∙ ap₂ (λ (ids : List ℕ) (told : List UnitFlags). filter_map (unit_in stream c.args.controls) (zip ids told)) page c.as_slice.ensures.value);
    }
