-- The units to whose keys the key of a unit refers stand before it.
use Rattle.std.proofs.Common.{◌≡◌, refl, sym, ap, ◌∙◌, subst, ℕ, ◌<◌, List, [], ◌∷◌, map, take, Option, None, Some, inl, inr, slice_get}
use Rattle.std.specs.Prelude.{option_and_then}
use Rattle.std.specs.List.{zip}
use Rattle.std.proofs.lemmas.Option.{none-some, same_Some}
use Rattle.h264_controls.specs.declared.request.RequestBody.{RequestBody}
use Rattle.unit_outcomes.specs.declared.outcome.Outcome.{Outcome}
use Rattle.decode_jobs.specs.KeyMaps.{IsKeyMap, entered, tree_at}
use Rattle.decode_jobs.specs.Keys.{Key, named_by_all, tree_with, bodies_of}
use Rattle.picture_keys.specs.Known.{Known, key_at, key_of, known_after, keys_of}
use Rattle.picture_keys.specs.Numbered.{AllStandFor}
use Rattle.held_pictures.proofs.Lookups.{known_of}
use Rattle.held_pictures.proofs.Standing.{number_of_key, number_there, stands_at, valid_of_found}
use Rattle.picture_store.specs.Stored.{Trees}
use Rattle.picture_store.specs.Schedules.{IsEntryOf, RefersTo}

module _ (known : Known) (bodies : List RequestBody) (first : Key) where
  -- the key with the keys of these units at its entries
  abbrev key_with : List (Option ℕ) → Key
  key_with units = tree_with bodies (map (λ unit. option_and_then (key_at known) unit) units)

  by_key : (id : ℕ) (units : List (Option ℕ)) → (IsEntryOf first (key_with units) → (id : ℕ) × (key_at known id ≡ Some first))
      → (key : Option Key) → key_at known id ≡ key → IsEntryOf first (entered key (key_with units))
      → (id : ℕ) × (key_at known id ≡ Some first)
  by_key id units rest None known_is among = rest among
  by_key id units rest (Some key) known_is among = elim among [
    | inl same ↦ (id, known_is ∙ ap (λ (k : Key). Some k) same)
    | inr later ↦ rest later
  ]

  -- a key at an entry is known of a unit
  entry_known : (units : List (Option ℕ)) → IsEntryOf first (key_with units) → (id : ℕ) × (key_at known id ≡ Some first)
  entry_known [] among = absurd among
  entry_known (None ∷ units) among = entry_known units among
  entry_known (Some id ∷ units) among = by_key id units (entry_known units) (key_at known id) refl among

module _ (keys : Trees) (ids : List ℕ) (outcomes : List Outcome) (numbers : List (Option ℕ))
    (stand : AllStandFor keys numbers (keys_of (zip ids outcomes))) where
  -- a key at an entry of a unit's key is that of an earlier unit
  pub entry_before : (at number : ℕ) (tree first : Key) → slice_get numbers at ≡ Some (Some number)
      → tree_at keys number ≡ Some tree → IsEntryOf first tree
      → (place : ℕ) × (place < at) × (n : ℕ) × (slice_get numbers place ≡ Some (Some n)) × (tree_at keys n ≡ Some first)
  entry_before at number tree first is tree_is among =
      let valid = valid_of_found keys ids outcomes numbers stand at number is in
      let known : Known = known_after [] (take at (zip ids outcomes)) in
      let same : tree ≡ key_of known valid.1.requests =
      same_Some tree (key_of known valid.1.requests) (sym tree_is ∙ valid.3) in
      let named = entry_known known (bodies_of valid.1.requests) first (named_by_all valid.1.requests)
      (subst (IsEntryOf first) same among) in
      elim (known_of [] (zip ids outcomes) at named.0 first named.1) [
        | inl last ↦
            let number = number_there keys numbers (keys_of (zip ids outcomes)) stand last.at (Some first) last.key_is in
            let has = number_of_key keys number.0 first
            (stands_at keys numbers (keys_of (zip ids outcomes)) stand last.at number.0 (Some first) number.1 last.key_is) in
            (last.at, last.before, has.0, number.1 ∙ ap Some has.1, has.2)
        | inr before ↦ absurd (none-some first before.0)
      ]

  -- so a unit that refers to the key of a number stands after one that has it
  pub refers_later : IsKeyMap keys → (at entry : ℕ) → RefersTo keys numbers at entry
      → (place : ℕ) × (place < at) × (slice_get numbers place ≡ Some (Some entry))
  refers_later one at entry refers =
      let before = entry_before at refers.number refers.tree refers.first refers.stands refers.tree_is refers.among in
      let same : before.2 ≡ entry = one.trees before.2 entry refers.first before.4 refers.first_is in
      (before.0, before.1, before.3 ∙ ap (λ n. Some (Some n)) same)
