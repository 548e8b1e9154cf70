-- The units that are wanted.
use Rattle.std.specs.Prelude.{◌≡◌, ◌≢◌, ℕ, Bool, true, List, [], ◌∷◌, ◌++◌, Contains, All, AllPairs, None, Some}
use Rattle.stand_in_session.specs.Showing.{Shown}
use Rattle.serve_answers.specs.Replies.{state_of}
use Rattle.serve_calls.specs.declared.wanted_units.WantedUnit.{WantedUnit}

-- a unit of the number is among these
abbrev pub IsAmong : List WantedUnit → ℕ → Type 0
IsAmong units number = (unit : WantedUnit) × Contains units unit × (unit.number ≡ number)

-- nothing was told of a unit, and nobody asked what is shown of it
abbrev pub IsUntold : WantedUnit → Type 0
IsUntold unit = (unit.told ≡ None) × (unit.seen ≡ None)

-- the units are those of the numbers, each once, and nothing was told of them
pub record AreWanted (numbers : List ℕ) (units : List WantedUnit) : Type 0 where
  pub each : (number : ℕ) → Contains numbers number → IsAmong units number
  pub only : (number : ℕ) → IsAmong units number → Contains numbers number
  pub once : AllPairs (λ unit other. unit.number ≢ other.number) units
  pub untold : All IsUntold units

-- a number more is wanted
abbrev pub AddsOne : List WantedUnit → ℕ → List WantedUnit → Type 0
AddsOne old number new = (numbers : List ℕ) → AreWanted numbers old → AreWanted (numbers ++ number ∷ []) new

-- edits changed what is shown of a unit, which is no picture now
pub record IsChanged (unit : WantedUnit) (has_edits : Bool) (shown : Shown) : Type 0 where
  pub edited : has_edits ≡ true
  pub no_picture : state_of shown ≢ None
  pub before : Shown
  pub was : unit.seen ≡ Some before
  pub differs : before ≢ shown
