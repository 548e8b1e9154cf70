-- The ids that are wanted of a unit: those at whose entries stand keys whose pictures aren't held.
use Rattle.std.proofs.Common.{◌≡◌, refl, sym, ap, ◌∙◌, ℕ, zero, suc, ◌<◌, ◌==◌, List, [], ◌∷◌, length, get_or, Option, None, Some, is_some, not, Bool, true, false, Contains, slice_get, arith}
use Rattle.std.specs.Prelude.{Result, Ok, Err, OnOk}
use Rattle.std.specs.List.{zip}
use Rattle.std.proofs.Common.{rules}
use Rattle.std.proofs.lemmas.Bool.{eqb-true}
use Rattle.std.proofs.lemmas.Option.{none-some, same_Some, slice_get-get_or}
use Rattle.h264_controls.specs.declared.request.Request.{Request}
use Rattle.h264_controls.specs.declared.request.RequestBody.{RequestBody}
use Rattle.unit_outcomes.specs.declared.outcome.Outcome.{Outcome}
use Rattle.unit_outcomes.specs.declared.outcome.Outcome.TheVariants.{Plan as Planned, Fault as Faulty, Empty}
use Rattle.unit_outcomes.specs.declared.outcome.Plan.{Plan}
use Rattle.decode_jobs.specs.KeyMaps.{KeyMap, IsNodeOf, named, tree_at, tree_of}
use Rattle.decode_jobs.specs.Nodes.{NodeOf}
use Rattle.held_pictures.specs.declared.key_slots.slots.Slot.{Slot}
use Rattle.decode_jobs.specs.Keys.{Key, named_by_all, bodies_of}
use Rattle.picture_keys.specs.Known.{Known, key_at, key_of}
use Rattle.held_pictures.specs.Held.{AreWanted, IsHeld}
use Rattle.held_pictures.specs.Needed.{IsValid}
use Rattle.held_pictures.proofs.Entries.{entries_many, entry_same}

-- the requests of a unit, none where it isn't valid
abbrev pub requests_in : Outcome → List Request
requests_in (Planned plan) = plan.requests
requests_in (Faulty fault) = []
requests_in Empty = []

-- four things that hold where a call went well
pub on_ok_four : {T E A B C D G : Type 0} (r : Result T E) → (A → B → C → D → G) → OnOk r A → OnOk r B → OnOk r C → OnOk r D
    → OnOk r G
on_ok_four (Ok x) f a b c d = f a b c d
on_ok_four (Err e) f a b c d = search rules

-- something that isn't nothing
pub some_there : (o : Option ℕ) (b : Bool) → is_some o ≡ not b → b ≡ false → (n : ℕ) × (o ≡ Some n)
some_there None b is none = absurd cc
some_there (Some n) b is none = (n, refl)

-- and isn't nothing
pub not_nothing : (o : Option ℕ) (b : Bool) (n : ℕ) → is_some o ≡ not b → b ≡ true → o ≡ Some n → ⊥
not_nothing o b n is none some = cc

-- a list without items
pub no_items : (n : ℕ) (b : Bool) → b ≡ (n == 0) → b ≡ true → n ≡ 0
no_items n b is holds = eqb-true n 0 (sym is ∙ holds)

-- the unit that is read at a place
pub unit_read : (ids : List ℕ) (outcomes : List Outcome) (at : ℕ) (outcome : Outcome) → length outcomes ≡ length ids
    → at < length ids → outcome ≡ get_or outcomes at outcome → (own : ℕ) × (slice_get (zip ids outcomes) at ≡ Some (own, outcome))
unit_read [] outcomes at outcome many within is = absurd (omega (arith, within))
unit_read (id ∷ ids) [] at outcome many within is = absurd (omega (arith, many))
unit_read (id ∷ ids) (first ∷ outcomes) zero outcome many within is =
    (id, ap (λ (o : Outcome). Some (id, o)) (sym is))
unit_read (id ∷ ids) (first ∷ outcomes) (suc at) outcome many within is =
    unit_read ids outcomes at outcome (omega (arith, many)) (omega (arith, within)) is

-- the id of a valid unit
pub id_of_valid : (ids : List ℕ) (outcomes : List Outcome) (at id : ℕ) → IsValid (zip ids outcomes) at id → slice_get ids at ≡ Some id
id_of_valid [] outcomes at id (plan, is) = absurd (none-some (id, Planned plan) is)
id_of_valid (own ∷ ids) [] at id (plan, is) = absurd (none-some (id, Planned plan) is)
id_of_valid (own ∷ ids) (first ∷ outcomes) zero id (plan, is) =
    ap (λ (unit : ℕ × Outcome). Some unit.0) (same_Some (own, first) (id, Planned plan) is)
id_of_valid (own ∷ ids) (first ∷ outcomes) (suc at) id (plan, is) = id_of_valid ids outcomes at id (plan, is)

module _ {P : Type 0} (keys : KeyMap (List RequestBody)) (key_slots : List (Slot P)) (key : ℕ) (node : NodeOf (List RequestBody))
    (is_node : IsNodeOf keys key node) (known : Known) (plan : Plan)
    (tree_is : tree_at keys key ≡ Some (key_of known plan.requests)) where
  same_key : tree_of keys node ≡ key_of known plan.requests
  same_key = same_Some (tree_of keys node) (key_of known plan.requests) (sym is_node.tree ∙ tree_is)

  module _ (wanted : List ℕ) (are : AreWanted key_slots (named_by_all plan.requests) node.entries wanted) (id : ℕ) (own : Key)
      (known_is : key_at known id ≡ Some own)
      (waits : (number : ℕ) → tree_at keys number ≡ Some own → IsHeld key_slots number → ⊥) where
    by_entry : (i : ℕ) (entry : Option ℕ) → slice_get node.entries i ≡ Some entry
        → slice_get (named_by_all plan.requests) i ≡ Some (Some id) → named keys entry ≡ Some own → Contains wanted id
    by_entry i None entry_is unit_is named_is = absurd (none-some own named_is)
    by_entry i (Some number) entry_is unit_is named_is = are i id number unit_is entry_is (waits number named_is)

    -- an id that the lists have is wanted where the key that is known of it isn't held
    pub named_wanted : Contains (named_by_all plan.requests) (Some id) → Contains wanted id
    named_wanted among =
        let unit_is : slice_get (named_by_all plan.requests) among.0 ≡ Some (Some id) =
        slice_get-get_or (named_by_all plan.requests) among.0 (Some id) among.1 ∙ ap Some among.2 in
        let many = entries_many keys known node.content (bodies_of plan.requests) node.entries (named_by_all plan.requests) same_key in
        let within : among.0 < length node.entries = omega (arith, among.1, many) in
        let entry_is = slice_get-get_or node.entries among.0 None within in
        let same = entry_same keys known node.content (bodies_of plan.requests) node.entries (named_by_all plan.requests) same_key
        among.0 (get_or node.entries among.0 None) (Some id) entry_is unit_is in
        by_entry among.0 (get_or node.entries among.0 None) entry_is unit_is (same ∙ known_is)
