-- What `Keys::sweep` leaves of a map.
use Rattle.std.specs.Prelude.{◌≡◌, ℕ, Bool, List, ◌⊎◌, Some}
use Rattle.std.specs.List.{Contains, filter}
use Rattle.decode_jobs.specs.Trees.{Tree}
use Rattle.decode_jobs.specs.Trees.Tree.{Bare, Gap, With}
use Rattle.decode_jobs.specs.KeyMaps.{KeyMap, tree_at}

module _ {W : Type 0} where
  -- the tree is at an entry of another, or below one
  abbrev pub IsBelow : Tree W → Tree W → Type 0
  IsBelow tree (Bare content) = ⊥
  IsBelow tree (Gap rest) = IsBelow tree rest
  IsBelow tree (With first rest) = (tree ≡ first) ⊎ (IsBelow tree first ⊎ IsBelow tree rest)

  -- the tree is a root's, or is below the tree of one
  pub record IsNeeded (keys : KeyMap W) (roots : List ℕ) (tree : Tree W) : Type 0 where
    pub root : ℕ
    pub among : Contains roots root
    pub top : Tree W
    pub rooted : tree_at keys root ≡ Some top
    pub within : (tree ≡ top) ⊎ IsBelow tree top

  -- the pairs of the roots and of all that is below them are left, in their order, and no others
  pub record IsSwept (old : KeyMap W) (roots : List ℕ) (new : KeyMap W) : Type 0 where
    pub kept : (number : ℕ) (tree : Tree W) → tree_at old number ≡ Some tree
        → IsNeeded old roots tree → tree_at new number ≡ Some tree
    pub only : (number : ℕ) (tree : Tree W) → tree_at new number ≡ Some tree
        → (tree_at old number ≡ Some tree) × IsNeeded old roots tree
    pub pairs : (keep : ℕ → Bool) × (new ≡ filter (λ pair. keep pair.0) old)
