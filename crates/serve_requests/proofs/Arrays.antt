-- Parameters that are arrays.
use Rattle.std.proofs.Common.{◌≡◌, ◌∙◌, ◌==◌, List, [], ◌∷◌, not, false, length, None, Some, ap, sym, refl, arith}
use Rattle.std.proofs.lemmas.Bool.{ne_eqb, not_from_false}
use Rattle.std.proofs.lemmas.Option.{none-some, same_Some}
use Rattle.serde_json.specs.Data.{Data, null, boolean, number, string, array, object}
use Rattle.serde_json.specs.Find.{as_array}
use Rattle.serde_json.specs.View.{items_view}
use Rattle.serde_json.specs.declared.value.Value.{Value}
use Rattle.serve_requests.specs.Requests.{has_items}

-- the array of a list has items where the list has some
has_items_view : (values : List Value) → has_items (array (items_view values)) ≡ not (length values == 0)
has_items_view [] = refl
has_items_view (value ∷ values) =
    sym (not_from_false (length (value ∷ values) == 0) (ne_eqb (length (value ∷ values)) 0 (λ none. omega (arith, none))))

-- so has a value that is this array
pub has_some : (it : Data) (values : List Value) → Some (items_view values) ≡ as_array it → not (length values == 0) ≡ has_items it
has_some null values is = absurd (none-some (items_view values) (sym is))
has_some (boolean b) values is = absurd (none-some (items_view values) (sym is))
has_some (number n) values is = absurd (none-some (items_view values) (sym is))
has_some (string s) values is = absurd (none-some (items_view values) (sym is))
has_some (array ds) values is =
    sym (ap (λ items. has_items (array items)) (sym (same_Some (items_view values) ds is)) ∙ has_items_view values)
has_some (object ms) values is = absurd (none-some (items_view values) (sym is))

-- one that is no array has none
pub has_none : (it : Data) → None ≡ as_array it → false ≡ has_items it
has_none null is = refl
has_none (boolean b) is = refl
has_none (number n) is = refl
has_none (string s) is = refl
has_none (array ds) is = absurd (none-some ds is)
has_none (object ms) is = refl
