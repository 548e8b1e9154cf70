-- What is stored of a mark: the numbers of the marked keys, and a flag for each.
use Rattle.std.specs.Prelude.{◌≡◌, ℕ, List, [], ◌↔◌, Bool, false, Contains, Option, Some, IsTrue, slice_index_or}
use Rattle.std.specs.Option.{option_map, unwrap_or}
use Rattle.decode_jobs.specs.KeyMaps.{tree_at}
use Rattle.decode_jobs.specs.Keys.{Key}
use Rattle.picture_store.specs.Stored.{Trees, keys_for}

-- whether the number has a flag
abbrev pub is_flagged : List Bool → ℕ → Bool
is_flagged flags number = slice_index_or flags number false

-- the flags are those of the numbers
abbrev pub AreFlagged : List ℕ → List Bool → Type 0
AreFlagged numbers flags = (number : ℕ) → IsTrue (is_flagged flags number) ↔ Contains numbers number

-- the numbers of the marked keys, none before the first mark
abbrev pub numbers_marked : Option (List ℕ) → List ℕ
numbers_marked mark = unwrap_or mark []

-- the marked keys, where a mark was made
abbrev pub marked_for : Trees → Option (List ℕ) → Option (List Key)
marked_for keys mark = option_map (keys_for keys) mark

-- the number of each marked key is live
abbrev pub AreMarked : Trees → Option (List ℕ) → Type 0
AreMarked keys mark = (number : ℕ) → Contains (numbers_marked mark) number → (key : Key) × (tree_at keys number ≡ Some key)
