-- A map of keys as it is built: nodes under numbers, each of which names earlier ones alone.
use Rattle.std.specs.Prelude.{◌≡◌, ℕ, ◌<◌, ◌≤◌, List, [], ◌∷◌, ◌++◌, length, slice_index_or, Option, Some, None, map}
use Rattle.decode_jobs.specs.Nodes.{NodeOf}
use Rattle.decode_jobs.specs.KeyMaps.{KeyMap, tree_at, tree_of, AreLive, IsNew}
use Rattle.decode_jobs.specs.Indexed.{at, IsLast}

-- a number with its node
abbrev pub Slot : Type 0 → Type 0
Slot W = ℕ × NodeOf W

module _ {W : Type 0} where
  -- a map with one slot more
  abbrev pub grown : KeyMap W → Slot W → KeyMap W
  grown keys slot = keys ++ (slot.0, tree_of keys slot.1) ∷ []

  -- a map with these slots more, one after the other
  abbrev pub grown_by : KeyMap W → List (Slot W) → KeyMap W
  grown_by keys [] = keys
  grown_by keys (slot ∷ slots) = grown_by (grown keys slot) slots

  -- a slot may come next: its entries are live, its number is not, and its tree is new
  pub record IsNext (keys : KeyMap W) (slot : Slot W) : Type 0 where
    pub live : AreLive keys slot.1.entries
    pub unused : tree_at keys slot.0 ≡ None
    pub fresh : IsNew keys (tree_of keys slot.1)

  -- each of the slots may come next
  abbrev pub AreNext : KeyMap W → List (Slot W) → Type 0
  AreNext keys [] = Unit {0}
  AreNext keys (slot ∷ slots) = IsNext keys slot × AreNext (grown keys slot) slots

  -- the slot stands at the place
  abbrev pub StandsAt : List (Slot W) → ℕ → Slot W → Type 0
  StandsAt slots place slot = (place < length slots) × (slot ≡ slice_index_or slots place slot)

  -- no slot from a place on that has the fingerprint has the node
  abbrev pub IsNoneFrom : List (Slot W) → List (List ℕ) → List ℕ → NodeOf W → ℕ → Type 0
  IsNoneFrom slots fingerprints fingerprint node from =
      (place : ℕ) (slot : Slot W) → from ≤ place → StandsAt slots place slot
      → at fingerprints place ≡ fingerprint → slot.1 ≡ node → ⊥

  -- a number whose slot has the node, or nothing where no slot that has the fingerprint has it
  abbrev pub IsFound : List (Slot W) → List (List ℕ) → List ℕ → NodeOf W → Option ℕ → Type 0
  IsFound slots fingerprints fingerprint node None =
      IsNoneFrom slots fingerprints fingerprint node 0
  IsFound slots fingerprints fingerprint node (Some number) =
      (place : ℕ) × (slot : Slot W)
      × StandsAt slots place slot × (slot.0 ≡ number) × (slot.1 ≡ node)

  -- what is left to look at where a search has come to a candidate
  pub record IsSearched (slots : List (Slot W)) (fingerprints : List (List ℕ)) (fingerprint : List ℕ)
      (node : NodeOf W) (candidate : Option ℕ) : Type 0 where
    pub end : ℕ
    pub last : IsLast fingerprints end fingerprint candidate
    pub within : end ≤ length fingerprints
    pub passed : IsNoneFrom slots fingerprints fingerprint node end

  -- slots with what is kept beside them
  pub record AreKept (digest : NodeOf W → List ℕ) (slots : List (Slot W)) (numbers : List ℕ)
      (fingerprints : List (List ℕ)) : Type 0 where
    pub built : AreNext [] slots
    pub numbered : numbers ≡ map (λ slot. slot.0) slots
    pub indexed : fingerprints ≡ map (λ slot. digest slot.1) slots
