-- What `Keys::intern` does to a map.
use Rattle.std.specs.Prelude.{◌≡◌, ℕ, [], ◌∷◌, ◌++◌, Some, None}
use Rattle.decode_jobs.specs.Trees.{Tree}
use Rattle.decode_jobs.specs.KeyMaps.{KeyMap, tree_at, IsNew}

-- the number has the tree: a map that had the tree is as it was, and another one has that one pair more, under a number
-- that was not live
pub record IsInterned {W : Type 0} (old : KeyMap W) (tree : Tree W) (number : ℕ)
    (new : KeyMap W) : Type 0 where
  pub there : tree_at new number ≡ Some tree
  pub known : (other : ℕ) → tree_at old other ≡ Some tree → new ≡ old
  pub added : IsNew old tree → (tree_at old number ≡ None) × (new ≡ old ++ (number, tree) ∷ [])
