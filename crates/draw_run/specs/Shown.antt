-- Units as they are drawn, each with what is said of it (docs/OUTPUT.md).
use Rattle.std.specs.Prelude.{◌≡◌, ℕ, ◌++◌, List, length, Option, None, Some, slice_get}
use Rattle.unit_outcomes.specs.declared.doubts.walk.Doubt.{Doubt}
use Rattle.unit_outcomes.specs.declared.outcome.Outcome.{Outcome}
use Rattle.unit_printing.specs.UnitLines.{outcome_lines}
use Rattle.stream_svg.specs.Captions.{lines_of}
use Rattle.stream_svg.specs.declared.writing.Caption.{Caption}
use Rattle.stream_svg.specs.declared.unit.DrawnUnit.{DrawnUnit}
use Rattle.stream_svg.specs.declared.unit.EditMark.{EditMark}
use Rattle.draw_run.specs.Units.{IsUnitOf}
use Rattle.draw_run.specs.Chosen.{position_in}
use Rattle.draw_run.specs.Doubts.{doubt_in, doubt_line}
use Rattle.draw_run.specs.declared.drawn_fold.KeptUnit.{KeptUnit}

-- the unit of this id, outcome and position is drawn so, and this is said of it: its lines, and that it
-- is in doubt
pub record IsShownBy (id : ℕ) (outcome : Outcome) (position : Option ℕ) (doubt : Doubt) (mark : Option EditMark)
    (unit : DrawnUnit) (caption : Caption) : Type 0 where
  pub drawn : IsUnitOf id outcome position doubt.in_doubt mark unit
  pub says : lines_of caption ≡ outcome_lines id position outcome ++ doubt_line doubt

-- units of a stream are drawn so, one by one, of which these are all positions and all that is told of
-- doubt
pub record AreShown (positions : List (Option ℕ)) (doubts : List Doubt) (kept : List KeptUnit) (units : List DrawnUnit)
    (captions : List Caption) : Type 0 where
  pub units_long : length units ≡ length kept
  pub captions_long : length captions ≡ length kept
  pub each : (place : ℕ) (one : KeptUnit) (unit : DrawnUnit) (caption : Caption) → slice_get kept place ≡ Some one
      → slice_get units place ≡ Some unit → slice_get captions place ≡ Some caption
      → IsShownBy one.id one.outcome (position_in positions one.id) (doubt_in doubts one.id) None unit caption
