-- Places along a stream: place p is the one past its first p units.
use Rattle.std.specs.Prelude.{◌≡◌, ℕ, ◌<◌, List, [], ◌∷◌}
use Rattle.std.specs.List.{AllByRecursion}

-- the first place is 0, before any unit
abbrev pub StartsAtZero : List ℕ → Type 0
StartsAtZero [] = ⊥
StartsAtZero (place ∷ places) = place ≡ 0

-- each place is above those before it
abbrev pub AreRising : List ℕ → Type 0
AreRising [] = Unit {0}
AreRising (place ∷ places) = AllByRecursion (λ other. place < other) places × AreRising places
