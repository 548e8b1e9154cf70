-- The entries of a node: one by one the keys of the units that requests name.
use Rattle.std.proofs.Common.{◌≡◌, refl, sym, ap, ◌∙◌, ℕ, zero, suc, List, [], ◌∷◌, length, map, Option, Some, None, slice_get}
use Rattle.std.specs.Prelude.{option_and_then}
use Rattle.std.proofs.lemmas.Option.{none-some}
use Rattle.h264_controls.specs.declared.request.RequestBody.{RequestBody}
use Rattle.decode_jobs.specs.KeyMaps.{KeyMap, tree_from, named, entered}
use Rattle.decode_jobs.specs.Trees.Tree.{Bare}
use Rattle.decode_jobs.specs.Keys.{Key, tree_with}
use Rattle.picture_keys.specs.Known.{Known, key_at}

-- what has no entry in front isn't what has one
bare_apart : (bodies : List RequestBody) (entry : Option Key) (rest : Key) → Bare bodies ≡ entered entry rest → ⊥
bare_apart bodies None rest same = cc
bare_apart bodies (Some first) rest same = cc

-- the entries in front, and what comes after them
entered_parts : (a b : Option Key) (rest other : Key) → entered a rest ≡ entered b other → (a ≡ b) × (rest ≡ other)
entered_parts None None rest other same = (refl, cc)
entered_parts None (Some second) rest other same = cc
entered_parts (Some first) None rest other same = cc
entered_parts (Some first) (Some second) rest other same =
    let firsts : first ≡ second = cc in
    (ap (λ key. Some key) firsts, cc)

-- the keys that are known of units
abbrev pub keys_known : Known → List (Option ℕ) → List (Option Key)
keys_known known units = map (λ unit. option_and_then (key_at known) unit) units

-- in two trees that are one, the same keys stand at the same entries
module _ (keys : KeyMap (List RequestBody)) (known : Known) (bodies others : List RequestBody) where
  pub entries_many : (entries units : List (Option ℕ))
      → tree_from keys bodies entries ≡ tree_with others (keys_known known units) → length units ≡ length entries
  entries_many [] [] same = refl
  entries_many [] (unit ∷ units) same =
      absurd (bare_apart bodies (option_and_then (key_at known) unit) (tree_with others (keys_known known units)) same)
  entries_many (entry ∷ entries) [] same =
      absurd (bare_apart others (named keys entry) (tree_from keys bodies entries) (sym same))
  entries_many (entry ∷ entries) (unit ∷ units) same =
      let parts = entered_parts (named keys entry) (option_and_then (key_at known) unit) (tree_from keys bodies entries)
      (tree_with others (keys_known known units)) same in
      ap suc (entries_many entries units parts.1)

  pub entry_same : (entries units : List (Option ℕ))
      → tree_from keys bodies entries ≡ tree_with others (keys_known known units)
      → (i : ℕ) (entry unit : Option ℕ) → slice_get entries i ≡ Some entry → slice_get units i ≡ Some unit
      → named keys entry ≡ option_and_then (key_at known) unit
  entry_same [] units same i entry unit entry_is unit_is = absurd (none-some entry entry_is)
  entry_same (first ∷ entries) [] same i entry unit entry_is unit_is = absurd (none-some unit unit_is)
  entry_same (first ∷ entries) (one ∷ units) same zero entry unit entry_is unit_is =
      let parts = entered_parts (named keys first) (option_and_then (key_at known) one) (tree_from keys bodies entries)
      (tree_with others (keys_known known units)) same in
      let first_is : first ≡ entry = cc in
      let one_is : one ≡ unit = cc in
      sym (ap (named keys) first_is) ∙ (parts.0 ∙ ap (λ u. option_and_then (key_at known) u) one_is)
  entry_same (first ∷ entries) (one ∷ units) same (suc i) entry unit entry_is unit_is =
      let parts = entered_parts (named keys first) (option_and_then (key_at known) one) (tree_from keys bodies entries)
      (tree_with others (keys_known known units)) same in
      entry_same entries units parts.1 i entry unit entry_is unit_is
