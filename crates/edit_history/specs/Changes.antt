-- What a change makes of the texts of a stream.
use Rattle.std.specs.Prelude.{◌≡◌, ℕ, ◌<◌, ◌≤◌, List, [], ◌∷◌, length, insert}
use Rattle.access_unit.specs.StreamUnits.{most_units}
use Rattle.edit_history.specs.declared.changes.UnitChange.{UnitChange}
use Rattle.edit_history.specs.declared.changes.UnitChange.TheVariants.{Inserted, Deleted, Replaced}
use Rattle.edit_history.specs.Texts.{Texts}
use Rattle.stream_edits.specs.Refusals.{IsUnit}

-- one has the text of one unit more, at the place
pub record IsMore (fewer : Texts) (at : ℕ) (text : List ℕ) (more : Texts) : Type 0 where
  pub unit : IsUnit text
  pub within : at ≤ length fewer
  pub fits : length fewer < most_units
  pub more_is : more ≡ insert fewer at text

-- the change leads from one to the other
abbrev pub Changes : Texts → UnitChange → Texts → Type 0
Changes old (Inserted at text) new = IsMore old at text new
Changes old (Deleted at text) new = IsMore new at text old
Changes old (Replaced at former text) new = (others : Texts) × IsMore others at former old × IsMore others at text new

-- the changes, one after the other, lead from one to the other
abbrev pub ChangesAll : Texts → List UnitChange → Texts → Type 0
ChangesAll old [] new = old ≡ new
ChangesAll old (change ∷ changes) new = (next : Texts) × Changes old change next × ChangesAll next changes new

-- there is such a place among so many units
abbrev pub IsWithin : ℕ → UnitChange → Type 0
IsWithin units (Inserted at text) = at ≤ units
IsWithin units (Deleted at text) = at < units
IsWithin units (Replaced at former text) = at < units
