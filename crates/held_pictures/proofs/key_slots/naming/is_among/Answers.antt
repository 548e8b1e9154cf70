use Rattle.std.proofs.Common.{◌≡◌, sym, ◌==◌, rules, tests, ℕ, ◌∙◌}
use Rattle.std.specs.List.{list_any}
use Rattle.std.proofs.lemmas.Iterator.{YieldsList-from_slice}
use Rattle.std.proofs.lemmas.Iterator.Search.{any_from_yields_List}
use Rattle.held_pictures.proofs.Entered.{any_among}
use Rattle.held_pictures.proofs.key_slots.naming.is_among.Goals as goal

pub returns : goal.returns
returns c =
    let ids = c.args.ids.now in
    let id = c.args.id in
    let found : c.any.result ≡ list_any (λ (other : ℕ). other == id) ids =
    any_from_yields_List (λ (other : ℕ). other == id) _ _ c.any.result c.any.ensures.ran (YieldsList-from_slice ids cc) (λ x b q k. search (rules, tests)) in
    (λ yes. (any_among ids id).0 (sym found ∙ yes), λ among. found ∙ (any_among ids id).1 among)
