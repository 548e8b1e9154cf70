-- What is marked: it stays where the trees of the marked keys do, and says which units are altered.
use Rattle.std.proofs.Common.{◌≡◌, refl, ap, sym, ◌∙◌, subst, ℕ, zero, suc, List, [], ◌∷◌, Option, None, Some, inl, inr, Bool, true, false, ◌↔◌, IsTrue, Contains, not, slice_get, get_or}
use Rattle.std.specs.List.{filter_map}
use Rattle.decode_jobs.specs.KeyMaps.{IsKeyMap, tree_at}
use Rattle.decode_jobs.specs.Keys.{Key}
use Rattle.decode_jobs.specs.Inputs.{InputValue}
use Rattle.unit_outcomes.specs.declared.outcome.Outcome.{Outcome}
use Rattle.picture_keys.specs.Numbered.{AllStandFor}
use Rattle.std.proofs.lemmas.Option.{same_Some, get_or_from_slice_get}
use Rattle.picture_store.specs.declared.job_out.JobOut.{JobOut}
use Rattle.picture_store.specs.Altered.{IsAltered}
use Rattle.picture_store.specs.Stores.{StoreValue}
use Rattle.picture_store.specs.KeySlots.{KeySlotsValue}
use Rattle.held_pictures.proofs.Members.{here, there, nowhere, first_or_among, map_same}
use Rattle.picture_store.specs.Stored.{Trees, key_for, keys_for, IsSound, KeepsMarked}
use Rattle.picture_store.specs.Marks.{AreMarked, marked_for, numbers_marked}
use Rattle.picture_store.proofs.Lifting.{for_contains, contains_for}
use Rattle.picture_store.proofs.Pended.{key_at_place, number_at_place}
use Rattle.picture_store.proofs.Viewed.{Marked, viewed}
use Rattle.picture_store.proofs.Stays.{key_is, key_stays, none_is_not_some, stand_live}

module _ (keys more : Trees) where
  -- marked keys are live where their trees stay
  pub marks_stay : (mark : Option (List ℕ)) → AreMarked keys mark → KeepsMarked (numbers_marked mark) keys more → AreMarked more mark
  marks_stay mark are stay number is =
      let live : (key : Key) × (tree_at keys number ≡ Some key) = are number is in
      (live.0, stay number live.0 is live.1)

  -- and are what they were
  pub marked_same : (mark : Option (List ℕ)) → AreMarked keys mark → KeepsMarked (numbers_marked mark) keys more
      → marked_for more mark ≡ marked_for keys mark
  marked_same None are stay = refl
  marked_same (Some numbers) are stay =
      ap Some
      (map_same (key_for keys) (key_for more) numbers
      (λ number is.
      let live : (key : Key) × (tree_at keys number ≡ Some key) = are number is in
      key_stays keys more number live.0 live.1 (stay number live.0 is live.1)))

-- a number that some unit has is a unit's
some_listed : (numbers : List (Option ℕ)) (number : ℕ) → Contains (filter_map (λ n. n) numbers) number → Contains numbers (Some number)
some_listed [] number is = absurd (nowhere number is)
some_listed (None ∷ numbers) number is = there None (Some number) numbers (some_listed numbers number is)
some_listed (Some first ∷ numbers) number is =
    elim (first_or_among first number (filter_map (λ n. n) numbers) is) [
      | inl same ↦ subst (λ n. Contains (Some n ∷ numbers) (Some number)) (sym same) (here (Some number) numbers)
      | inr later ↦ there (Some first) (Some number) numbers (some_listed numbers number later)
    ]

-- what a unit has is among what units have
pub stands_listed : {X : Type 0} (xs : List (Option X)) (at : ℕ) (x : X) → slice_get xs at ≡ Some (Some x)
    → Contains (filter_map (λ o. o) xs) x
stands_listed [] at x is = absurd (cc)
stands_listed (None ∷ xs) zero x is = absurd (cc)
stands_listed (None ∷ xs) (suc at) x is = stands_listed xs at x is
stands_listed (Some first ∷ xs) zero x is =
    let same : first ≡ x = cc in
    subst (λ y. Contains (filter_map (λ o. o) (Some first ∷ xs)) y) same (here first (filter_map (λ o. o) xs))
stands_listed (Some first ∷ xs) (suc at) x is = there first x (filter_map (λ o. o) xs) (stands_listed xs at x is)

module _ (keys : Trees) where
  -- the keys of the numbers that units have are those of the units
  pub keys_listed : (numbers : List (Option ℕ)) (trees : List (Option Key)) → AllStandFor keys numbers trees
      → keys_for keys (filter_map (λ number. number) numbers) ≡ filter_map (λ key. key) trees
  keys_listed [] [] all = refl
  keys_listed [] (tree ∷ trees) all = absurd all
  keys_listed (first ∷ numbers) [] all = absurd all
  keys_listed (None ∷ numbers) (None ∷ trees) all = keys_listed numbers trees all.1
  keys_listed (None ∷ numbers) (Some tree ∷ trees) all = absurd (none_is_not_some tree all.0)
  keys_listed (Some number ∷ numbers) (None ∷ trees) all = absurd all.0
  keys_listed (Some number ∷ numbers) (Some tree ∷ trees) all =
      ap (λ (key : Key). key ∷ keys_for keys (filter_map (λ n. n) numbers)) (key_is keys number tree all.0)
      ∙ ap (λ (rest : List Key). tree ∷ rest) (keys_listed numbers trees all.1)

  -- and are live
  pub listed_live : (numbers : List (Option ℕ)) (trees : List (Option Key)) → AllStandFor keys numbers trees
      → AreMarked keys (Some (filter_map (λ number. number) numbers))
  listed_live numbers trees all number is =
      let live : (key : Key) × (tree_at keys number ≡ Some key) × Contains trees (Some key) =
      stand_live keys numbers trees all number (some_listed numbers number is) in
      (live.0, live.1)

  module _ (marked : List ℕ) (number : ℕ) (key : Key) (tree : tree_at keys number ≡ Some key) where
    -- a number that is marked is that of a marked key
    pub key_marked : Contains marked number → Contains (keys_for keys marked) key
    key_marked is =
        subst (Contains (keys_for keys marked)) (key_is keys number key tree) (contains_for keys marked number is)

    -- and the other way round
    pub number_marked : IsKeyMap keys → AreMarked keys (Some marked) → Contains (keys_for keys marked) key → Contains marked number
    number_marked one are is =
        let source : (n : ℕ) × Contains marked n × (key_for keys n ≡ key) = for_contains keys marked key is in
        let live : (k : Key) × (tree_at keys source.0 ≡ Some k) = are source.0 source.1 in
        let same : tree_at keys source.0 ≡ Some key =
        live.1 ∙ ap Some (sym (key_is keys source.0 live.0 live.1) ∙ source.2) in
        subst (Contains marked) (one.trees source.0 number key same tree) source.1

module _ {P : Type 0} {IsDecoded : InputValue P → P → Type 0} {IsOf : Key → P → Type 0} (keys : Trees) (ids : List ℕ) (outcomes : List Outcome) (numbers : List (Option ℕ)) (key_slots : KeySlotsValue P)
    (cached : List (ℕ × P)) (capacity : ℕ) (out : List (JobOut P)) (given : ℕ) (released : List P)
    (kept : IsSound IsDecoded IsOf keys ids outcomes numbers key_slots cached out) where
  -- a unit without a key isn't altered
  pub none_altered : (marked : Marked) (at : ℕ) → None ≡ get_or numbers at None
      → IsAltered (viewed keys ids outcomes numbers key_slots cached capacity out given released marked) at → ⊥
  none_altered marked at none altered =
      let number = number_at_place keys ids outcomes numbers key_slots cached capacity out given released marked kept at altered.key altered.has in
      none_is_not_some number.0 (sym (get_or_from_slice_get numbers at (Some number.0) None number.1) ∙ sym none)

  module _ (marked : List ℕ) (at number : ℕ) (stands : slice_get numbers at ≡ Some (Some number)) where
    abbrev store : StoreValue P
    store = viewed keys ids outcomes numbers key_slots cached capacity out given released (marked_for keys (Some marked))

    -- one whose number isn't marked is
    is_altered : AreMarked keys (Some marked) → (Contains marked number → ⊥) → IsAltered store at
    is_altered are not =
        let key = key_at_place keys ids outcomes numbers key_slots cached capacity out given released (marked_for keys (Some marked)) kept at number stands in
        record {
          key = key.0;
          has = key.1;
          keys = keys_for keys marked;
          marked = refl;
          new = λ is. not (number_marked keys marked number key.0 key.2 kept.right.one are is);
        }

    -- and one whose number is isn't
    not_altered : Contains marked number → IsAltered store at → ⊥
    not_altered is altered =
        let found = number_at_place keys ids outcomes numbers key_slots cached capacity out given released (marked_for keys (Some marked)) kept at altered.key altered.has in
        let same : found.0 ≡ number = same_Some found.0 number (same_Some (Some found.0) (Some number) (sym found.1 ∙ stands)) in
        let tree : tree_at keys number ≡ Some altered.key = subst (λ n. tree_at keys n ≡ Some altered.key) same found.2 in
        altered.new
        (subst (λ (those : List Key). Contains those altered.key) (same_Some (keys_for keys marked) altered.keys altered.marked)
        (key_marked keys marked number altered.key tree is))

    -- so what is answered is whether it is altered
    pub altered_by : (has : Bool) → IsTrue has ↔ Contains marked number → AreMarked keys (Some marked)
        → IsTrue (not has) ↔ IsAltered store at
    altered_by true tells are = (λ no. absurd (cc), λ altered. absurd (not_altered (tells.0 refl) altered))
    altered_by false tells are = (λ yes. is_altered are (λ among. let is = tells.1 among in cc), λ altered. refl)
