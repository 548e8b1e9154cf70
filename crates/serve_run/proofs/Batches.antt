-- The messages of a value.
use Rattle.std.proofs.Common.{◌≡◌, ◌∙◌, ◌<◌, ◌||◌, Bool, true, false, List, [], ◌∷◌, length, None, Some, ap, sym, refl, arith}
use Rattle.std.proofs.lemmas.Option.{none-some, same_Some}
use Rattle.serde_json.specs.Data.{Data, null, boolean, number, string, array, object, Items, no_items, item}
use Rattle.serde_json.specs.Find.{as_array}
use Rattle.serde_json.specs.View.{items_view, view}
use Rattle.serde_json.specs.declared.value.Value.{Value}
use Rattle.serve_requests.specs.Messages.{IsMessage, request_in}
use Rattle.serve_requests.specs.declared.message.Message.{Message}
use Rattle.serve_requests.specs.declared.message.Message.TheVariants as message
use Rattle.serve_calls.specs.Requests.{parts_if}
use Rattle.serve_run.specs.Serving.{messages_in}

-- those of a list of some
of_some : (values : List Value) → 0 < length values → items_view values ≡ messages_in (array (items_view values))
of_some [] some = absurd (omega (arith, some))
of_some (value ∷ values) some = refl

-- a value that is an array of some has those as messages
pub many : (it : Data) (values : List Value) → Some (items_view values) ≡ as_array it → 0 < length values
    → items_view values ≡ messages_in it
many null values is some = absurd (none-some (items_view values) (sym is))
many (boolean b) values is some = absurd (none-some (items_view values) (sym is))
many (number n) values is some = absurd (none-some (items_view values) (sym is))
many (string s) values is some = absurd (none-some (items_view values) (sym is))
many (array ds) values is some = of_some values some ∙ ap (λ items. messages_in (array items)) (same_Some (items_view values) ds is)
many (object ms) values is some = absurd (none-some (items_view values) (sym is))

-- one that is an empty array is itself its message
pub none : (it : Data) → Some no_items ≡ as_array it → item it no_items ≡ messages_in it
none null is = absurd (none-some no_items (sym is))
none (boolean b) is = absurd (none-some no_items (sym is))
none (number n) is = absurd (none-some no_items (sym is))
none (string s) is = absurd (none-some no_items (sym is))
none (array ds) is = ap (λ items. item (array items) no_items) (sym (same_Some no_items ds is))
    ∙ ap (λ items. messages_in (array items)) (same_Some no_items ds is)
none (object ms) is = absurd (none-some no_items (sym is))

-- and so is one that is no array
pub one : (it : Data) → None ≡ as_array it → item it no_items ≡ messages_in it
one null is = refl
one (boolean b) is = refl
one (number n) is = refl
one (string s) is = refl
one (array ds) is = absurd (none-some ds is)
one (object ms) is = refl

-- so the messages of an array's value are its values, or it where there are none
pub chosen : (it : Data) (values result : List Value) (alone : Value) → Some (items_view values) ≡ as_array it → view alone ≡ it
    → (values ≡ [] → result ≡ alone ∷ []) → (0 < length values → result ≡ values) → items_view result ≡ messages_in it
chosen it [] result alone is same empty some =
    ap items_view (empty refl) ∙ (ap (λ (it : Data). item it no_items) same ∙ none it is)
chosen it (value ∷ values) result alone is same empty some =
    let more : 0 < length (value ∷ values) = omega arith in
    ap items_view (some more) ∙ many it (value ∷ values) is more

-- whether one of several is so
pub or_assoc : (a b c : Bool) → (a || (b || c)) ≡ ((a || b) || c)
or_assoc true b c = refl
or_assoc false b c = refl

pub or_false : (a : Bool) → (a || false) ≡ a
or_false true = refl
or_false false = refl

-- the request that a message is
pub request_of : (value : Data) (it : Message) → IsMessage value it → parts_if it ≡ request_in value
request_of value (message.RpcRequest request) is = sym is
request_of value (message.Other id) is = sym is.0
