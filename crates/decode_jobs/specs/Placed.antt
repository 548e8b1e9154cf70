-- Numbers that are live, in a list, and the place of each in that list.
use Rattle.std.specs.Prelude.{◌≡◌, ℕ, zero, suc, ◌<◌, List, [], ◌∷◌, length, nat_eq, slice_index, Option, Some, None, Contains, if◌then◌else◌}
use Rattle.std.specs.List.{list_any}

-- places has, at each live number, where the number stands
pub record ArePlaced (live : List ℕ) (places : List ℕ) : Type 0 where
  pub below : (i : ℕ) → i < length live → slice_index live i < length places
  pub exact : (i : ℕ) → i < length live → slice_index places (slice_index live i) ≡ i

-- the number is not live
abbrev pub IsUnused : List ℕ → ℕ → Type 0
IsUnused live number = (i : ℕ) → i < length live → slice_index live i ≡ number → ⊥

-- where the number stands, or nothing where it is not live
abbrev pub IsPlace : List ℕ → ℕ → Option ℕ → Type 0
IsPlace live number None = IsUnused live number
IsPlace live number (Some place) = (place < length live) × (slice_index live place ≡ number)

-- the numbers below an end that are not live, the greatest first
abbrev pub unused_below : List ℕ → ℕ → List ℕ
unused_below live zero = []
unused_below live (suc number) =
    if list_any (nat_eq number) live then unused_below live number else number ∷ unused_below live number

-- the number is the least that is not live
pub record IsLeastUnused (live : List ℕ) (number : ℕ) : Type 0 where
  pub unused : IsUnused live number
  pub least : (below : ℕ) → below < number → Contains live below

-- each live number has its place, and those that have one and are not live are spare
pub record AreNumbered (live places spare : List ℕ) : Type 0 where
  pub placed : ArePlaced live places
  pub spared : spare ≡ unused_below live (length places)
