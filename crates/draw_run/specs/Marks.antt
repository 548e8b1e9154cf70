-- What edits did to the units of a stream, as a drawing shows it.
use Rattle.std.specs.Prelude.{◌≡◌, ◌↔◌, ℕ, IsTrue, List, length, Option, None, Some, Contains, slice_get}
use Rattle.decode_jobs.specs.Keys.{Key}
use Rattle.stand_in_session.specs.Machines.{Machine}
use Rattle.stream_session.specs.Altered.{IsAltered}
use Rattle.stream_session.specs.Needing.{IsPendingIn}
use Rattle.stream_session.specs.Showing.{HasKey}
use Rattle.stream_session.specs.Streams.{outcome_in, position_in}
use Rattle.stream_svg.specs.declared.unit.EditMark.{EditMark}
use Rattle.stream_svg.specs.declared.unit.PictureState.{PictureState}
use Rattle.stream_svg.specs.declared.unit.PictureState.TheVariants.{Stayed, Pending}
use Rattle.stream_svg.specs.declared.writing.Caption.{Caption}
use Rattle.stream_svg.specs.declared.unit.DrawnUnit.{DrawnUnit}
use Rattle.unit_outcomes.specs.declared.outcome.Outcome.{Outcome}
use Rattle.unit_outcomes.specs.declared.doubts.walk.Doubt.{Doubt}
use Rattle.draw_run.specs.Shown.{IsShownBy}

-- all pictures are held: no unit is pending
abbrev pub HoldsAll : Machine → Type 0
HoldsAll machine = (id : ℕ) → IsPendingIn machine id → ⊥

-- what became of the picture of the unit that has the id: it is held, or pending, or the unit has
-- no key
abbrev pub IsStateOf : Machine → ℕ → Option PictureState → Type 0
IsStateOf machine id (Some Stayed) = (key : Key) × HasKey machine.register.stream id key × Contains machine.held key
IsStateOf machine id (Some Pending) =
    (key : Key) × HasKey machine.register.stream id key × (Contains machine.held key → ⊥)
IsStateOf machine id None = (key : Key) → HasKey machine.register.stream id key → ⊥

-- what is shown of edits at the unit that has the id: whether it is altered, and what became of its picture
pub record IsMarkOf (machine : Machine) (id : ℕ) (mark : EditMark) : Type 0 where
  pub altered : IsTrue mark.altered ↔ IsAltered machine id
  pub picture : IsStateOf machine id mark.picture

-- the unit that has the id is drawn so, and this is said of it: by its outcome, its position in output
-- order, what edits did to it, and what is told of doubt
pub record IsShownAs (machine : Machine) (id : ℕ) (doubt : Doubt) (unit : DrawnUnit) (caption : Caption) : Type 0 where
  pub outcome : Outcome
  pub position : Option ℕ
  pub outcome_is : outcome_in machine.register.stream id ≡ Some outcome
  pub position_is : position_in machine.register.stream id ≡ Some position
  pub mark : EditMark
  pub marked : IsMarkOf machine id mark
  pub shown : IsShownBy id outcome position doubt (Some mark) unit caption

-- units that have these ids are, one by one, of which this is told of doubt
pub record AreShownAs (machine : Machine) (ids : List ℕ) (doubts : List Doubt) (units : List DrawnUnit)
    (captions : List Caption) : Type 0 where
  pub units_long : length units ≡ length ids
  pub captions_long : length captions ≡ length ids
  pub each : (place id : ℕ) (doubt : Doubt) (unit : DrawnUnit) (caption : Caption) → slice_get ids place ≡ Some id
      → slice_get doubts place ≡ Some doubt → slice_get units place ≡ Some unit → slice_get captions place ≡ Some caption
      → IsShownAs machine id doubt unit caption
