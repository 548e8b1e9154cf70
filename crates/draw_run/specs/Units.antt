-- A unit as it is drawn, by its outcome.
use Rattle.std.specs.Prelude.{◌≡◌, ℕ, Bool, Option}
use Rattle.unit_outcomes.specs.declared.outcome.Outcome.{Outcome}
use Rattle.stream_svg.specs.declared.unit.DrawnUnit.{DrawnUnit}
use Rattle.stream_svg.specs.declared.unit.EditMark.{EditMark}
use Rattle.draw_run.specs.Kinds.{kind_of}
use Rattle.draw_run.specs.Lists.{AreEachOnce, named_in}

-- this is drawn of the unit with this id, outcome and position in output order, of which the mark says
-- what edits did to it
pub record IsUnitOf (id : ℕ) (outcome : Outcome) (position : Option ℕ) (in_doubt : Bool) (mark : Option EditMark)
    (unit : DrawnUnit) : Type 0 where
  pub id_is : unit.id ≡ id
  pub kind_is : unit.kind ≡ kind_of outcome position
  pub references_are : AreEachOnce (named_in outcome) unit.references.items
  pub in_doubt_is : unit.in_doubt ≡ in_doubt
  pub mark_is : unit.mark ≡ mark
