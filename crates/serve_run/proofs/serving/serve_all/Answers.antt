use Rattle.std.proofs.Common.{◌≡◌, ◌∙◌, ◌+◌, ◌≤◌, ◌||◌, List, [], ◌∷◌, drop, length, ap, sym, subst, refl, arith}
use Rattle.std.proofs.lemmas.List.{at_drop_all, at_drop_more}
use Rattle.serde_json.specs.Data.{Items, item, no_items}
use Rattle.serde_json.specs.View.{items_view, view}
use Rattle.serde_json.specs.declared.value.Value.{Value}
use Rattle.serve_run.specs.Serving.{ServesAll, end_any}
use Rattle.serve_run.proofs.Batches.{or_assoc, or_false}
use Rattle.serve_run.proofs.serving.serve_all.Goals as goal

pub loop-value-init : goal.loop-value-init
loop-value-init g c = λ rest new wants all. (rest, all, refl)

pub loop-value-preserved : goal.loop-value-preserved
loop-value-preserved g c = λ rest new wants left.
    let one = c.serve_one-one_is.ensures in
    let values : List Value = c.args.values.now in
    let at = c.loop-value.value-index in
    let value : Value = c.value-item.result in
    let next : items_view (drop at values) ≡ item (view value) (items_view (drop (at + 1) values)) =
    at_drop_more items_view values at value c.loop-value-test.true
    ∙ ap (λ (first : Value). item (view first) (items_view (drop (at + 1) values))) (sym c.value-item.is) in
    let whole = c.loop-value.invariant (one.0 ∷ rest) new wants
    (subst (λ (items : Items). ServesAll g.B.LendsSession.is_session g.B.Backend.offers g.S.Source.file c.loop-value.server c.loop-value.wanted.items
    items (one.0 ∷ rest) new wants) (sym next)
    (one.0, rest, c.serve_one-one_is.new.server, c.serve_one-one_is.new.wanted.items, one.1, left, refl)) in (
      whole.0,
      whole.1,
      whole.2 ∙ or_assoc c.loop-value.is_last one.0.is_last (end_any rest)
          ∙ ap (λ is. (c.loop-value.is_last || is) || end_any rest) (sym one.2) ∙ ap (λ is. is || end_any rest) (sym c.either-is_last.ensures),
    )

pub returns : goal.returns
returns g c =
    let values : List Value = c.args.values.now in
    let at = c.loop-value.value-index in
    let over : length values ≤ at = omega (arith, c.loop-value-test.false) in
    let whole = c.loop-value.invariant [] c.loop-value.server c.loop-value.wanted.items
    (subst (λ (items : Items). ServesAll g.B.LendsSession.is_session g.B.Backend.offers g.S.Source.file c.loop-value.server c.loop-value.wanted.items
    items [] c.loop-value.server c.loop-value.wanted.items) (sym (at_drop_all items_view values at over)) (refl, refl, refl)) in
    (whole.0, whole.1, sym (whole.2 ∙ or_false c.loop-value.is_last))
