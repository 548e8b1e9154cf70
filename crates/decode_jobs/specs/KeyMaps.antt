-- Finite maps from the numbers of live keys to their trees.
use Rattle.std.specs.Prelude.{◌≡◌, ℕ, ◌<◌, ◌==◌, List, [], ◌∷◌, Option, Some, None, IsSome, if◌then◌else◌}
use Rattle.std.specs.Coded.{Coded, coded×, coded_list, coded_ℕ}
use Rattle.decode_jobs.specs.Trees.{Tree, tree_code}
use Rattle.decode_jobs.specs.Trees.Tree.{Bare, Gap, With}
use Rattle.decode_jobs.specs.Nodes.{NodeOf}

-- the live numbers, each with its tree, in the order in which they were given
abbrev pub KeyMap : Type 0 → Type 0
KeyMap W = List (ℕ × Tree W)

-- a map is stored as its pairs
abbrev pub map_code : {W : Type 0} → Coded W → Coded (KeyMap W)
map_code code = coded_list (coded× coded_ℕ (tree_code code))

module _ {W : Type 0} where
  -- the tree under a number, or nothing where the number is not live
  abbrev pub tree_at : KeyMap W → ℕ → Option (Tree W)
  tree_at [] number = None
  tree_at (pair ∷ pairs) number = if pair.0 == number then Some pair.1 else tree_at pairs number

  -- the tree that an entry names
  abbrev pub named : KeyMap W → Option ℕ → Option (Tree W)
  named keys None = None
  named keys (Some number) = tree_at keys number

  -- a tree with one entry more in front
  abbrev pub entered : Option (Tree W) → Tree W → Tree W
  entered None rest = Gap rest
  entered (Some first) rest = With first rest

  -- the tree of this content with these entries
  abbrev pub tree_from : KeyMap W → W → List (Option ℕ) → Tree W
  tree_from keys content [] = Bare content
  tree_from keys content (entry ∷ entries) = entered (named keys entry) (tree_from keys content entries)

  -- the tree of a node
  abbrev pub tree_of : KeyMap W → NodeOf W → Tree W
  tree_of keys node = tree_from keys node.content node.entries

  -- the entry names a live key, or nothing
  abbrev pub IsLive : KeyMap W → Option ℕ → Type 0
  IsLive keys None = Unit {0}
  IsLive keys (Some number) = IsSome (tree_at keys number)

  -- each entry names a live key, or nothing
  abbrev pub AreLive : KeyMap W → List (Option ℕ) → Type 0
  AreLive keys [] = Unit {0}
  AreLive keys (entry ∷ entries) = IsLive keys entry × AreLive keys entries

  -- each number below this one is live
  abbrev pub AreLiveBelow : KeyMap W → ℕ → Type 0
  AreLiveBelow keys number = (below : ℕ) → below < number → IsSome (tree_at keys below)

  -- the node of a live number: the number has its tree, and its entries are live
  pub record IsNodeOf (keys : KeyMap W) (number : ℕ) (node : NodeOf W) : Type 0 where
    pub tree : tree_at keys number ≡ Some (tree_of keys node)
    pub live : AreLive keys node.entries

  -- no number has the tree
  abbrev pub IsNew : KeyMap W → Tree W → Type 0
  IsNew keys tree = (number : ℕ) → tree_at keys number ≡ Some tree → ⊥

  -- the second map has each pair of the first
  abbrev pub Extends : KeyMap W → KeyMap W → Type 0
  Extends keys more =
      (number : ℕ) (tree : Tree W) → tree_at keys number ≡ Some tree
      → tree_at more number ≡ Some tree

  -- no number stands twice
  abbrev pub NumbersDiffer : KeyMap W → Type 0
  NumbersDiffer [] = Unit {0}
  NumbersDiffer (pair ∷ pairs) = (tree_at pairs pair.0 ≡ None) × NumbersDiffer pairs

  -- no tree is under two numbers
  abbrev pub IsOneToOne : KeyMap W → Type 0
  IsOneToOne keys =
      (a b : ℕ) (tree : Tree W) → tree_at keys a ≡ Some tree → tree_at keys b ≡ Some tree
      → a ≡ b

  -- each number stands once, and has a tree of its own
  pub record IsKeyMap (keys : KeyMap W) : Type 0 where
    pub numbers : NumbersDiffer keys
    pub trees : IsOneToOne keys
