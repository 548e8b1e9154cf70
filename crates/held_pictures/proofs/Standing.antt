-- Units, the numbers of their keys, and the keys that they stand for.
use Rattle.std.proofs.Common.{◌≡◌, refl, sym, ap, ◌∙◌, subst, ℕ, zero, suc, List, [], ◌∷◌, length, take, Option, None, Some, slice_get, arith}
use Rattle.std.specs.List.{zip}
use Rattle.std.proofs.lemmas.Option.{none-some, same_Some, slice_get_within}
use Rattle.h264_controls.specs.declared.request.RequestBody.{RequestBody}
use Rattle.unit_outcomes.specs.declared.outcome.Outcome.{Outcome}
use Rattle.unit_outcomes.specs.declared.outcome.Outcome.TheVariants.{Plan as Planned, Fault as Faulty, Empty}
use Rattle.unit_outcomes.specs.declared.outcome.Plan.{Plan}
use Rattle.decode_jobs.specs.KeyMaps.{KeyMap, IsKeyMap, tree_at}
use Rattle.held_pictures.specs.declared.key_slots.slots.Slot.{Slot}
use Rattle.decode_jobs.specs.Keys.{Key}
use Rattle.picture_keys.specs.Known.{Known, key_at, key_of, key_of_outcome, known_with, known_after, keys_after, keys_of}
use Rattle.picture_keys.specs.Numbered.{StandsFor, AllStandFor}
use Rattle.held_pictures.specs.Held.{IsHeld, IsWaiting}
use Rattle.held_pictures.specs.Needed.{IsValid, Names}
use Rattle.held_pictures.proofs.Lookups.{last_known}
use Rattle.held_pictures.proofs.UnitAt.{IsAt, unit_at}

-- the key of a unit, by its outcome
pub key_there : (units : List (ℕ × Outcome)) (at id : ℕ) (outcome : Outcome) → slice_get units at ≡ Some (id, outcome)
    → slice_get (keys_of units) at ≡ Some (key_of_outcome (known_after [] (take at units)) outcome)
key_there units at id outcome is =
    let found : (unit : ℕ × Outcome) × IsAt [] units at unit = unit_at [] units at (slice_get_within units at (id, outcome) is) in
    let same : found.0 ≡ (id, outcome) = same_Some found.0 (id, outcome) (sym found.1.got ∙ is) in
    found.1.key
    ∙ ap (λ (unit : ℕ × Outcome). Some (key_of_outcome (known_after [] (take at units)) unit.1)) same

-- a unit that has a key is valid
pub valid_there : (units : List (ℕ × Outcome)) (at : ℕ) (key : Key) → slice_get (keys_of units) at ≡ Some (Some key)
    → (id : ℕ) × (plan : Plan) × (slice_get units at ≡ Some (id, Planned plan))
    × (key ≡ key_of (known_after [] (take at units)) plan.requests)
valid_there units at key is = by_outcome found.0.0 found.0.1 found.1.got found.1.key
  where
    keys_many : (items : List (ℕ × Outcome)) (known : Known) → length (keys_after known items) ≡ length items
    keys_many [] known = refl
    keys_many (item ∷ items) known =
        ap suc (keys_many items (known_with known item.0 (key_of_outcome known item.1)))

    found : (unit : ℕ × Outcome) × IsAt [] units at unit
    found =
        let within = slice_get_within (keys_of units) at (Some key) is in
        let many = keys_many units [] in
        unit_at [] units at (omega (arith, within, many))

    by_outcome : (id : ℕ) (outcome : Outcome) → slice_get units at ≡ Some (id, outcome)
        → slice_get (keys_of units) at ≡ Some (key_of_outcome (known_after [] (take at units)) outcome)
        → (id : ℕ) × (plan : Plan) × (slice_get units at ≡ Some (id, Planned plan))
        × (key ≡ key_of (known_after [] (take at units)) plan.requests)
    by_outcome id (Planned plan) got key_is = (
      id,
      plan,
      got,
      same_Some key (key_of (known_after [] (take at units)) plan.requests)
          (same_Some (Some key) (Some (key_of (known_after [] (take at units)) plan.requests)) (sym is ∙ key_is)),
    )
    by_outcome id (Faulty fault) got key_is =
        absurd (none-some key (sym (same_Some (Some key) None (sym is ∙ key_is))))
    by_outcome id Empty got key_is =
        absurd (none-some key (sym (same_Some (Some key) None (sym is ∙ key_is))))

module _ (keys : KeyMap (List RequestBody)) where
  -- the key that a number stands for
  pub stands_at : (found : List (Option ℕ)) (trees : List (Option Key)) → AllStandFor keys found trees → (at : ℕ)
      (number : Option ℕ) (tree : Option Key) → slice_get found at ≡ Some number → slice_get trees at ≡ Some tree
      → StandsFor keys number tree
  stands_at [] trees all at number tree number_is tree_is = absurd (none-some number number_is)
  stands_at (first ∷ found) [] all at number tree number_is tree_is = absurd all
  stands_at (first ∷ found) (one ∷ trees) all zero number tree number_is tree_is =
      subst (λ n. StandsFor keys n tree) (same_Some first number number_is)
      (subst (λ t. StandsFor keys first t) (same_Some one tree tree_is) all.0)
  stands_at (first ∷ found) (one ∷ trees) all (suc at) number tree number_is tree_is =
      stands_at found trees all.1 at number tree number_is tree_is

  -- there is a number for each key
  pub number_there : (found : List (Option ℕ)) (trees : List (Option Key)) → AllStandFor keys found trees → (at : ℕ)
      (tree : Option Key) → slice_get trees at ≡ Some tree → (number : Option ℕ) × (slice_get found at ≡ Some number)
  number_there [] [] all at tree is = absurd (none-some tree is)
  number_there [] (one ∷ trees) all at tree is = absurd all
  number_there (first ∷ found) [] all at tree is = absurd all
  number_there (first ∷ found) (one ∷ trees) all zero tree is = (first, refl)
  number_there (first ∷ found) (one ∷ trees) all (suc at) tree is = number_there found trees all.1 at tree is

  -- and a key for each number
  pub tree_there : (found : List (Option ℕ)) (trees : List (Option Key)) → AllStandFor keys found trees → (at : ℕ)
      (number : Option ℕ) → slice_get found at ≡ Some number → (tree : Option Key) × (slice_get trees at ≡ Some tree)
  tree_there [] trees all at number is = absurd (none-some number is)
  tree_there (first ∷ found) [] all at number is = absurd all
  tree_there (first ∷ found) (one ∷ trees) all zero number is = (one, refl)
  tree_there (first ∷ found) (one ∷ trees) all (suc at) number is = tree_there found trees all.1 at number is

  -- a number that stands for a key is its
  pub number_of_key : (number : Option ℕ) (key : Key) → StandsFor keys number (Some key)
      → (n : ℕ) × (number ≡ Some n) × (tree_at keys n ≡ Some key)
  number_of_key None key stands = absurd (none-some key (sym stands))
  number_of_key (Some n) key stands = (n, refl, stands)

  -- a key for which a number stands
  pub key_of_number : (n : ℕ) (tree : Option Key) → StandsFor keys (Some n) tree
      → (key : Key) × (tree ≡ Some key) × (tree_at keys n ≡ Some key)
  key_of_number n None stands = absurd stands
  key_of_number n (Some key) stands = (key, refl, stands)

module _ (keys : KeyMap (List RequestBody)) (ids : List ℕ) (outcomes : List Outcome) (found : List (Option ℕ))
    (stand : AllStandFor keys found (keys_of (zip ids outcomes))) where
  -- a valid unit's key has a number
  pub found_of_valid : (at id : ℕ) → IsValid (zip ids outcomes) at id → (n : ℕ) × (slice_get found at ≡ Some (Some n))
  found_of_valid at id (plan, is) =
      let tree_is = key_there (zip ids outcomes) at id (Planned plan) is in
      let number = number_there keys found (keys_of (zip ids outcomes)) stand at _ tree_is in
      let has = number_of_key keys number.0 _ (stands_at keys found (keys_of (zip ids outcomes)) stand at number.0 _ number.1 tree_is) in
      (has.0, number.1 ∙ ap Some has.1)

  -- a unit whose key has a number is valid, and that is the number of its key
  pub valid_of_found : (at n : ℕ) → slice_get found at ≡ Some (Some n)
      → (id : ℕ) × (plan : Plan) × (slice_get (zip ids outcomes) at ≡ Some (id, Planned plan))
      × (tree_at keys n ≡ Some (key_of (known_after [] (take at (zip ids outcomes))) plan.requests))
  valid_of_found at n is =
      let tree = tree_there keys found (keys_of (zip ids outcomes)) stand at (Some n) is in
      let key = key_of_number keys n tree.0 (stands_at keys found (keys_of (zip ids outcomes)) stand at (Some n) tree.0 is tree.1) in
      let valid = valid_there (zip ids outcomes) at key.0 (tree.1 ∙ ap Some key.1) in
      (valid.0, valid.1, valid.2, key.2 ∙ ap Some valid.3)

  module _ {P : Type 0} (one : IsKeyMap keys) (key_slots : List (Slot P)) (at number : ℕ) (number_is : slice_get found at ≡ Some (Some number))
      (other : ℕ) (names : Names (zip ids outcomes) at other) (waits : IsWaiting found key_slots other) where
    -- the keys that are known where a unit is
    abbrev pub known_there : Known
    known_there = known_after [] (take at (zip ids outcomes))

    -- the key of a unit that is named is known there
    pub named_key : (key : Key) × (key_at known_there names.id ≡ Some key) × (tree_at keys waits.0 ≡ Some key)
    named_key =
        let is = last_known [] (zip ids outcomes) at other names.id names.before names.valid names.last in
        let key = key_of_number keys waits.0 (key_at known_there names.id)
        (stands_at keys found (keys_of (zip ids outcomes)) stand other (Some waits.0) (key_at known_there names.id) waits.1 is) in
        (key.0, key.1, key.2)

    -- and no picture of it is held
    pub named_waits : (n : ℕ) → tree_at keys n ≡ Some named_key.0 → IsHeld key_slots n → ⊥
    named_waits n is held =
        waits.2 (subst (IsHeld key_slots) (one.trees n waits.0 named_key.0 is named_key.2) held)

    -- the unit that names it has the key of its number
    pub own_key : (own : ℕ) (plan : Plan) → slice_get (zip ids outcomes) at ≡ Some (own, Planned plan)
        → tree_at keys number ≡ Some (key_of known_there plan.requests)
    own_key own plan is =
        let valid = valid_of_found at number number_is in
        let same : Planned valid.1 ≡ Planned plan =
        ap (λ (unit : ℕ × Outcome). unit.1) (same_Some (valid.0, Planned valid.1) (own, Planned plan) (sym valid.2 ∙ is)) in
        valid.3 ∙ ap (λ (outcome : Outcome). key_of_outcome known_there outcome) same
