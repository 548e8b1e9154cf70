-- Fingerprints at places, and the last place of each.
use Rattle.std.specs.Prelude.{◌≡◌, ℕ, ◌<◌, List, [], length, slice_index_or, Option, Some, None}
use Rattle.std.specs.Ordering.{nat_cmp}
use Rattle.std.specs.Cmp.Lexicographic.{slice_cmp}
use Rattle.std.specs.BTreeMap.{BTreeMap, get}

-- the fingerprint at a place
abbrev pub at : List (List ℕ) → ℕ → List ℕ
at fingerprints place = slice_index_or fingerprints place []

-- the last place below an end that has the fingerprint, or nothing where none has
abbrev pub IsLast : List (List ℕ) → ℕ → List ℕ → Option ℕ → Type 0
IsLast fingerprints end fingerprint None = (i : ℕ) → i < end → at fingerprints i ≡ fingerprint → ⊥
IsLast fingerprints end fingerprint (Some place) =
    (place < end) × (at fingerprints place ≡ fingerprint)
    × ((i : ℕ) → place < i → i < end → at fingerprints i ≡ fingerprint → ⊥)

-- what is stored for the fingerprints: the last place of each, and for each place the one before it of its fingerprint
pub record AreIndexed (fingerprints : List (List ℕ)) (newest : BTreeMap (List ℕ) ℕ)
    (older : List (Option ℕ)) : Type 0 where
  pub last : (fingerprint : List ℕ)
      → IsLast fingerprints (length fingerprints) fingerprint
      (get (slice_cmp nat_cmp) newest fingerprint)
  pub before : (place : ℕ) → place < length fingerprints
      → IsLast fingerprints place (at fingerprints place) (slice_index_or older place None)
  pub len : length older ≡ length fingerprints
