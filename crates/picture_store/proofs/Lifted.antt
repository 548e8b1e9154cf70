-- Units that are compared by the numbers of their keys are compared by their keys.
use Rattle.std.proofs.Common.{◌≡◌, refl, ap, sym, ◌∙◌, subst, ℕ, List, [], ◌∷◌, map, Option, None, Some, inl, inr}
use Rattle.std.specs.Prelude.{Contains, slice_get}
use Rattle.std.specs.Option.{option_map}
use Rattle.std.proofs.lemmas.Option.{none-some, same_Some, slice_get-map}
use Rattle.unit_outcomes.specs.declared.outcome.Outcome.{Outcome}
use Rattle.decode_jobs.specs.KeyMaps.{IsKeyMap, named, tree_at}
use Rattle.decode_jobs.specs.Keys.{Key}
use Rattle.picture_keys.specs.Numbered.{AllStandFor, StandsFor}
use Rattle.picture_keys.specs.declared.changed_units.changed.Changed.{Changed}
use Rattle.picture_keys.specs.Units.{ComparedUnit, compared, compared_units}
use Rattle.picture_keys.specs.Ranges.{IsChangedAt, IsLeast}
use Rattle.picture_keys.proofs.Lists.{contained}
use Rattle.held_pictures.proofs.Members.{among_map, among_source, first_or_among, nowhere}
use Rattle.picture_store.specs.Stored.{Trees}

-- a unit with its key in place of its number
abbrev pub lift : Trees → ComparedUnit ℕ → ComparedUnit Key
lift keys unit = record { id = unit.id; key = named keys unit.key; fault = unit.fault }

lift_one : (keys : Trees) (id : ℕ) (outcome : Outcome) (number : Option ℕ) (key : Option Key) → StandsFor keys number key
    → compared id outcome key ≡ lift keys (compared id outcome number)
lift_one keys id outcome None key stands = rw (stands) refl
lift_one keys id outcome (Some number) None stands = absurd stands
lift_one keys id outcome (Some number) (Some key) stands = rw (stands) refl

pub lift_all : (keys : Trees) (ids : List ℕ) (outcomes : List Outcome) (numbers : List (Option ℕ)) (trees : List (Option Key))
    → AllStandFor keys numbers trees
    → compared_units ids outcomes trees ≡ map (lift keys) (compared_units ids outcomes numbers)
lift_all keys [] outcomes numbers trees all = refl
lift_all keys (id ∷ ids) [] numbers trees all = refl
lift_all keys (id ∷ ids) (outcome ∷ outcomes) [] [] all = refl
lift_all keys (id ∷ ids) (outcome ∷ outcomes) [] (tree ∷ trees) all = absurd all
lift_all keys (id ∷ ids) (outcome ∷ outcomes) (number ∷ numbers) [] all = absurd all
lift_all keys (id ∷ ids) (outcome ∷ outcomes) (number ∷ numbers) (tree ∷ trees) all =
    rw (lift_one keys id outcome number tree all.0, lift_all keys ids outcomes numbers trees all.1) refl

-- a unit's number, if it has one, is that of a key
abbrev pub IsLiveUnit : Trees → Option ℕ → Type 0
IsLiveUnit keys number = (n : ℕ) → number ≡ Some n → (key : Key) × (tree_at keys n ≡ Some key)

live_one : (keys : Trees) (id : ℕ) (outcome : Outcome) (number : Option ℕ) (tree : Option Key) → StandsFor keys number tree
    → IsLiveUnit keys (compared id outcome number).key
live_one keys id outcome None tree stands n is = absurd (none-some n is)
live_one keys id outcome (Some number) None stands n is = absurd stands
live_one keys id outcome (Some number) (Some key) stands n is =
    (key, subst (λ m. tree_at keys m ≡ Some key) (same_Some number n is) stands)

pub live_all : (keys : Trees) (ids : List ℕ) (outcomes : List Outcome) (numbers : List (Option ℕ)) (trees : List (Option Key))
    → AllStandFor keys numbers trees → (unit : ComparedUnit ℕ) → Contains (compared_units ids outcomes numbers) unit
    → IsLiveUnit keys unit.key
live_all keys [] outcomes numbers trees all unit is = absurd (nowhere unit is)
live_all keys (id ∷ ids) [] numbers trees all unit is = absurd (nowhere unit is)
live_all keys (id ∷ ids) (outcome ∷ outcomes) [] trees all unit is = absurd (nowhere unit is)
live_all keys (id ∷ ids) (outcome ∷ outcomes) (number ∷ numbers) [] all unit is = absurd all
live_all keys (id ∷ ids) (outcome ∷ outcomes) (number ∷ numbers) (tree ∷ trees) all unit is =
    elim (first_or_among (compared id outcome number) unit (compared_units ids outcomes numbers) is) [
      | inl same ↦ subst (λ (u : ComparedUnit ℕ). IsLiveUnit keys u.key) same (live_one keys id outcome number tree all.0)
      | inr later ↦ live_all keys ids outcomes numbers trees all.1 unit later
    ]

key_same : (keys : Trees) → IsKeyMap keys → (a b : Option ℕ) → IsLiveUnit keys a → IsLiveUnit keys b
    → named keys a ≡ named keys b → a ≡ b
key_same keys one None None first second same = refl
key_same keys one None (Some m) first second same =
    let live = second m refl in absurd (none-some live.0 (same ∙ live.1))
key_same keys one (Some n) None first second same =
    let live = first n refl in absurd (none-some live.0 (sym same ∙ live.1))
key_same keys one (Some n) (Some m) first second same =
    let live = first n refl in ap Some (one.trees n m live.0 live.1 (sym same ∙ live.1))

unit_same : (a b : ℕ) (k l f h : Option ℕ) → a ≡ b → k ≡ l → f ≡ h
    → ◌≡◌ {A = ComparedUnit ℕ} (record { id = a; key = k; fault = f }) (record { id = b; key = l; fault = h })
unit_same a b k l f h first second third = rw (first, second, third) refl

-- units with one key have one number
pub lift_injective : (keys : Trees) → IsKeyMap keys → (x y : ComparedUnit ℕ) → IsLiveUnit keys x.key → IsLiveUnit keys y.key
    → lift keys x ≡ lift keys y → x ≡ y
lift_injective keys one x y first second same =
    unit_same x.id y.id x.key y.key x.fault y.fault (ap (λ u. u.id) same)
    (key_same keys one x.key y.key first second (ap (λ u. u.key) same)) (ap (λ u. u.fault) same)

option_source : {X Y : Type 0} (f : X → Y) (o : Option X) (y : Y) → option_map f o ≡ Some y → (x : X) × (o ≡ Some x) × (f x ≡ y)
option_source f None y is = absurd (none-some y is)
option_source f (Some x) y is = (x, refl, same_Some (f x) y is)

module _ {K L : Type 0} (f : ComparedUnit K → ComparedUnit L) (before after : List (ComparedUnit K))
    (injective : (x y : ComparedUnit K) → Contains before x → Contains after y → f x ≡ f y → x ≡ y) where
  changed_source : (at : ℕ) → IsChangedAt (map f before) (map f after) at → IsChangedAt before after at
  changed_source at is =
      let found : (x : ComparedUnit K) × (slice_get after at ≡ Some x) × (f x ≡ is.0) =
      option_source f (slice_get after at) is.0 (sym (slice_get-map f after at) ∙ is.1) in
      (found.0, found.1, λ was. is.2 (subst (Contains (map f before)) found.2 (among_map f before found.0 was)))

  changed_map : (at : ℕ) → IsChangedAt before after at → IsChangedAt (map f before) (map f after) at
  changed_map at is = (
    f is.0,
    slice_get-map f after at ∙ ap (option_map f) is.1,
    λ was.
        let found : (x : ComparedUnit K) × Contains before x × (f x ≡ f is.0) = among_source f before (f is.0) was in
        let same : found.0 ≡ is.0 = injective found.0 is.0 found.1 (contained after at is.0 is.1) found.2 in
        is.2 (subst (Contains before) same found.1),
  )

  pub least_map : (changed : Changed) → IsLeast before after changed → IsLeast (map f before) (map f after) changed
  least_map changed least = record {
    covers = λ at is. least.covers at (changed_source at is);
    first = λ some. changed_map changed.from (least.first some);
    last = λ some. changed_map _ (least.last some);
    none = least.none;
  }

-- so the least splice by numbers is that by keys
pub least_by_keys : (keys : Trees) → IsKeyMap keys → (ids more_ids : List ℕ) (outcomes more_outcomes : List Outcome)
    (numbers more_numbers : List (Option ℕ)) (trees more_trees : List (Option Key)) → AllStandFor keys numbers trees
    → AllStandFor keys more_numbers more_trees → (changed : Changed)
    → IsLeast (compared_units ids outcomes numbers) (compared_units more_ids more_outcomes more_numbers) changed
    → IsLeast (compared_units ids outcomes trees) (compared_units more_ids more_outcomes more_trees) changed
least_by_keys keys one ids more_ids outcomes more_outcomes numbers more_numbers trees more_trees all more_all changed least =
    rw (lift_all keys ids outcomes numbers trees all, lift_all keys more_ids more_outcomes more_numbers more_trees more_all)
    (least_map (lift keys) (compared_units ids outcomes numbers) (compared_units more_ids more_outcomes more_numbers)
    (λ x y was is.
    lift_injective keys one x y (live_all keys ids outcomes numbers trees all x was)
    (live_all keys more_ids more_outcomes more_numbers more_trees more_all y is))
    changed least)
