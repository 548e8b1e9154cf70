-- Texts put together.
use Rattle.std.specs.Prelude.{◌≡◌, ℕ, ◌+◌, ◌++◌, List, [], ◌∷◌}

-- the text grew by these bytes
pub record Grows (old new bytes : List ℕ) : Type 0 where
  pub by : new ≡ old ++ bytes

-- the texts of items from a place on, one after the other, each by its place
abbrev pub texts_from : {X : Type 0} → (ℕ → X → List ℕ) → ℕ → List X → List ℕ
texts_from text place [] = []
texts_from text place (item ∷ items) = text place item ++ texts_from text (place + 1) items

-- the texts of items, one after the other, each by its place
abbrev pub texts_of : {X : Type 0} → (ℕ → X → List ℕ) → List X → List ℕ
texts_of text items = texts_from text 0 items
