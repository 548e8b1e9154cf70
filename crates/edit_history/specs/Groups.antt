-- The texts that a group of edits leads to.
use Rattle.std.specs.Prelude.{ℕ, List}
use Rattle.edit_history.specs.declared.groups.StepGroup.{StepGroup}
use Rattle.edit_history.specs.Changes.{ChangesAll}
use Rattle.edit_history.specs.Texts.{Texts, IsStream}
use Rattle.stream_edits.specs.declared.edits.Edit.{Edit}
use Rattle.stream_edits.specs.Edits.{Register, Makes}
use Rattle.stream_edits.specs.Groups.{MakesAll}

-- the edit is accepted, and leaves these texts, ids and so many given
pub record Leads (old : Register) (edit : Edit) (texts : Texts) (ids : List ℕ) (ids_given : ℕ) : Type 0 where
  pub id : ℕ
  pub new : Register
  pub makes : Makes old edit id new
  pub is : IsStream new texts ids ids_given

-- the edits are accepted, and leave these texts, ids and so many given
pub record LeadsAll (old : Register) (edits : List Edit) (texts : Texts) (ids : List ℕ) (ids_given : ℕ) : Type 0 where
  pub about : List ℕ
  pub new : Register
  pub makes : MakesAll old edits about new
  pub is : IsStream new texts ids ids_given

-- the edits are accepted, and what they change leads to these texts, whose units then have the ids
pub record TakesTo (old : Register) (texts : Texts) (group : StepGroup) (to : Texts) : Type 0 where
  pub leads : LeadsAll old group.edits.items to group.ids.items group.ids_given
  pub changes : ChangesAll texts group.changes.items to
