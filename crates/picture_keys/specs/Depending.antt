-- What the keys of units depend on of the units before them.
use Rattle.std.specs.Prelude.{◌≡◌, ℕ, List}
use Rattle.std.specs.List.{All}
use Rattle.unit_outcomes.specs.declared.outcome.Outcome.{Outcome}
use Rattle.picture_keys.specs.Known.{Known, key_at, keys_after}

-- the keys of some units are the same in both
abbrev pub AreAlike : Known → Known → List ℕ → Type 0
AreAlike known other ids = All (λ id. key_at known id ≡ key_at other id) ids

-- units have the same keys after all known ones in which the keys of these earlier units are the
-- same
abbrev pub DependOn : List ℕ → List (ℕ × Outcome) → Type 0
DependOn ids units = (known other : Known) → AreAlike known other ids → keys_after known units ≡ keys_after other units
