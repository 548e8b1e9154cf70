use Rattle.std.proofs.Common.{◌∙◌, ◌<◌, ap, length, refl, subst, sym}
use Rattle.serde_json.specs.Data.{item, no_items}
use Rattle.serde_json.specs.View.{items_view, view}
use Rattle.serve_run.proofs.Batches.{chosen, one}
use Rattle.serve_run.proofs.serving.messages_in.Goals as goal

pub returns-in-Some : goal.returns-in-Some
returns-in-Some c =
    let value = c.args.value.now in
    let values = c.in-Some.values.now.items in
    let same = c.as_slice.ensures.value in
    chosen (view value) values c.some_or.result.now value c.in-Some.ensures refl
    (λ empty. c.some_or.ensures.none (same ∙ empty))
    (λ more. c.some_or.ensures.some (subst (λ l. 0 < length l) (sym same) more) ∙ same)

pub returns-in-None : goal.returns-in-None
returns-in-None c = ap items_view c.from_ref.ensures.value ∙ one (view c.args.value.now) c.in-None.ensures
