-- How far stored places stand apart.
use Rattle.std.specs.Prelude.{ℕ, ◌+◌, ◌<◌, ◌≤◌, List, [], ◌∷◌, Contains}

-- the places after `place`, and the end of the stream after them, stand at most n apart from neighbour to neighbour
abbrev pub AreSpacedFrom : ℕ → ℕ → List ℕ → ℕ → Type 0
AreSpacedFrom n place [] end = end ≤ place + n
AreSpacedFrom n place (next ∷ places) end = (next ≤ place + n) × AreSpacedFrom n next places end

-- the places and the end of the stream stand at most n apart from neighbour to neighbour
abbrev pub AreSpaced : ℕ → List ℕ → ℕ → Type 0
AreSpaced n [] end = ⊥
AreSpaced n (place ∷ places) end = AreSpacedFrom n place places end

-- one of the places is this one, or less than n before it
abbrev pub HasNear : ℕ → List ℕ → ℕ → Type 0
HasNear n places place = (near : ℕ) × Contains places near × (near ≤ place) × (place < near + n)
