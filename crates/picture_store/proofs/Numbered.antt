-- The numbers of units' keys.
use Rattle.std.proofs.Common.{◌≡◌, refl, ap, sym, subst, ◌∙◌, ℕ, zero, suc, List, [], ◌∷◌, length, Option, None, Some, ◌↔◌}
use Rattle.std.specs.Prelude.{slice_get, Contains}
use Rattle.std.proofs.lemmas.Option.{slice_get_read, slice_get_within, get_or_from_slice_get}
use Rattle.decode_jobs.specs.KeyMaps.{tree_at, IsKeyMap}
use Rattle.decode_jobs.specs.Keys.{Key}
use Rattle.picture_keys.specs.Numbered.{StandsFor, AllStandFor}
use Rattle.picture_store.specs.Stores.{AreNumbered, IsNumberInUse, StoreValue, unit_keys}
use Rattle.picture_store.specs.Showing.{IsNumberAt}
use Rattle.picture_store.specs.Stored.{Trees}

nothing_there : {X : Type 0} (at : ℕ) (x : X) → slice_get [] at ≡ Some x → ⊥
nothing_there at x is = cc

one_value : {X : Type 0} (o : Option X) (a b : X) → o ≡ Some a → o ≡ Some b → a ≡ b
one_value o a b first second = cc

-- what stands for what at a place
pub stands_at : (keys : Trees) (numbers : List (Option ℕ)) (trees : List (Option Key)) → AllStandFor keys numbers trees
    → (at : ℕ) (number : Option ℕ) → slice_get numbers at ≡ Some number
    → (tree : Option Key) × (slice_get trees at ≡ Some tree) × StandsFor keys number tree
stands_at keys [] trees all at number is = absurd (nothing_there at number is)
stands_at keys (first ∷ numbers) [] all at number is = absurd all
stands_at keys (first ∷ numbers) (tree ∷ trees) all zero number is =
    let same : first ≡ number = cc in
    (tree, refl, subst (λ (n : Option ℕ). StandsFor keys n tree) same all.0)
stands_at keys (first ∷ numbers) (tree ∷ trees) all (suc at) number is = stands_at keys numbers trees all.1 at number is

stands_some : (keys : Trees) (number : ℕ) (tree : Option Key) (key : Key) → StandsFor keys (Some number) tree → tree ≡ Some key
    → tree_at keys number ≡ Some key
stands_some keys number None key stands is = absurd stands
stands_some keys number (Some other) key stands is = stands ∙ is

-- the number of a key is that under which its tree is kept
pub number_kept : (keys : Trees) (numbers : List (Option ℕ)) (trees : List (Option Key)) → AllStandFor keys numbers trees
    → (at number : ℕ) (key : Key) → slice_get trees at ≡ Some (Some key) → slice_get numbers at ≡ Some (Some number)
    → tree_at keys number ≡ Some key
number_kept keys numbers trees all at number key tree_is number_is =
    let stands : (tree : Option Key) × (slice_get trees at ≡ Some tree) × StandsFor keys (Some number) tree =
    stands_at keys numbers trees all at (Some number) number_is in
    stands_some keys number stands.0 key stands.2
    (one_value (slice_get trees at) stands.0 (Some key) stands.1 tree_is)

-- numbers that stand for keys of one map are equal exactly where the keys are
pub one_to_one : (keys : Trees) → IsKeyMap keys → (numbers : List (Option ℕ)) (trees : List (Option Key))
    (more_found : List (Option ℕ)) (more_trees : List (Option Key))
    → AllStandFor keys numbers trees → AllStandFor keys more_found more_trees
    → (key other : Key) (number another : ℕ)
    → ((at : ℕ) × (slice_get trees at ≡ Some (Some key)) × (slice_get numbers at ≡ Some (Some number)))
    → ((at : ℕ) × (slice_get more_trees at ≡ Some (Some other)) × (slice_get more_found at ≡ Some (Some another)))
    → (number ≡ another) ↔ (key ≡ other)
one_to_one keys one numbers trees more_found more_trees all more_all key other number another first second =
    let here : tree_at keys number ≡ Some key = number_kept keys numbers trees all first.0 number key first.1 first.2 in
    let there : tree_at keys another ≡ Some other =
    number_kept keys more_found more_trees more_all second.0 another other second.1 second.2 in (
      λ same. one_value (tree_at keys number) key other here (ap (tree_at keys) same ∙ there),
      λ same. one.trees number another key here (there ∙ ap Some (sym same)),
    )

some_key : (keys : Trees) (number : ℕ) (tree : Option Key) → StandsFor keys (Some number) tree
    → (key : Key) × (tree ≡ Some key)
some_key keys number None stands = absurd stands
some_key keys number (Some key) stands = (key, refl)

-- what is stored at a place is the number of the key of the unit that stands there
pub number_seen : {P : Type 0} (keys : Trees) (store : StoreValue P) → AllStandFor keys store.numbers (unit_keys store)
    → (at : ℕ) (number : Option ℕ) → slice_get store.numbers at ≡ Some number → IsNumberAt store at number
number_seen keys store all at None is =
    let stands : (tree : Option Key) × (slice_get (unit_keys store) at ≡ Some tree) × StandsFor keys None tree =
    stands_at keys store.numbers (unit_keys store) all at None is in
    (stands.1 ∙ ap (λ (tree : Option Key). Some tree) stands.2, is)
number_seen keys store all at (Some number) is =
    let stands : (tree : Option Key) × (slice_get (unit_keys store) at ≡ Some tree) × StandsFor keys (Some number) tree =
    stands_at keys store.numbers (unit_keys store) all at (Some number) is in
    let some : (key : Key) × (stands.0 ≡ Some key) = some_key keys number stands.0 stands.2 in
    (some.0, stands.1 ∙ ap (λ (tree : Option Key). Some tree) some.1, is)

-- a number that stands at some unit is that of a key in use
pub in_use_listed : {P : Type 0} (keys : Trees) (store : StoreValue P) → AllStandFor keys store.numbers (unit_keys store)
    → (number : ℕ) → Contains store.numbers (Some number) → IsNumberInUse store number
in_use_listed keys store all number (at, within, is) =
    let read : slice_get store.numbers at ≡ Some (Some number) =
    slice_get_read store.numbers (length store.numbers) at (Some number) refl within (sym is) in
    let seen = number_seen keys store all at (Some number) read in
    (seen.0, (at, seen.1, seen.2))

-- and no other is
pub listed_in_use : {P : Type 0} (store : StoreValue P) (number : ℕ) → IsNumberInUse store number → Contains store.numbers (Some number)
listed_in_use store number (key, (at, has, is)) =
    (at, slice_get_within store.numbers at (Some number) is, get_or_from_slice_get store.numbers at (Some number) (Some number) is)

number_of_some : (keys : Trees) (number : Option ℕ) (tree : Option Key) (key : Key) → StandsFor keys number tree
    → tree ≡ Some key → (n : ℕ) × (number ≡ Some n)
number_of_some keys None tree key stands is = absurd (cc)
number_of_some keys (Some n) tree key stands is = (n, refl)

-- a unit that has a key has a number
key_numbered : (keys : Trees) (numbers : List (Option ℕ)) (trees : List (Option Key)) → AllStandFor keys numbers trees
    → (at : ℕ) (key : Key) → slice_get trees at ≡ Some (Some key) → (n : ℕ) × (slice_get numbers at ≡ Some (Some n))
key_numbered keys [] [] all at key is = absurd (nothing_there at (Some key) is)
key_numbered keys [] (tree ∷ trees) all at key is = absurd all
key_numbered keys (first ∷ numbers) [] all at key is = absurd all
key_numbered keys (first ∷ numbers) (tree ∷ trees) all zero key is =
    let same : tree ≡ Some key = cc in
    let some : (n : ℕ) × (first ≡ Some n) = number_of_some keys first tree key all.0 same in
    (some.0, ap (λ (number : Option ℕ). Some number) some.1)
key_numbered keys (first ∷ numbers) (tree ∷ trees) all (suc at) key is = key_numbered keys numbers trees all.1 at key is

-- so each key in use has one
pub all_numbered : {P : Type 0} (keys : Trees) (store : StoreValue P) → AllStandFor keys store.numbers (unit_keys store) → AreNumbered store
all_numbered keys store all key (at, within, is) =
    let read : slice_get (unit_keys store) at ≡ Some (Some key) =
    slice_get_read (unit_keys store) (length (unit_keys store)) at (Some key) refl within (sym is) in
    let number : (n : ℕ) × (slice_get store.numbers at ≡ Some (Some n)) =
    key_numbered keys store.numbers (unit_keys store) all at key read in
    (number.0, (at, read, number.1))
