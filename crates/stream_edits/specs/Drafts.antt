-- A stream under the edits of a group.
use Rattle.std.specs.Prelude.{◌≡◌, ◌-◌, List, [], ◌∷◌, ◌++◌, length, min}
use Rattle.stream_edits.specs.declared.accepting.AcceptedEdit.{AcceptedEdit}
use Rattle.stream_edits.specs.declared.draft.Draft.{Draft}
use Rattle.stream_edits.specs.declared.edits.Edit.{Edit}
use Rattle.stream_edits.specs.Changes.{at_of, rest_from, stream_after}
use Rattle.stream_edits.specs.Common.{IsFront, IsRest}
use Rattle.stream_edits.specs.Edits.{Register}
use Rattle.stream_edits.specs.Groups.{MakesAll}
use Rattle.stream_edits.specs.Streams.{ids_of}

-- what it has come to
abbrev pub register_of : Draft → Register
register_of draft = record { ids_given = draft.ids_given; stream = draft.units.items }

-- the edits were made on it, and between those units at its front and at its end that are as they
-- were
pub record IsDraft (old : Register) (edits : List Edit) (draft : Draft) : Type 0 where
  pub makes : MakesAll old edits draft.about.items (register_of draft)
  pub ids_are : draft.ids.items ≡ ids_of draft.units.items
  pub front : IsFront old.stream draft.units.items draft.front
  pub rest : IsRest old.stream draft.units.items draft.rest

-- one accepted edit more was made on it
pub record IsMade (old : Draft) (accepted : AcceptedEdit) (new : Draft) : Type 0 where
  pub units_are : new.units.items ≡ stream_after accepted.change old.units.items
  pub ids_are : new.ids.items ≡ ids_of new.units.items
  pub given_is : new.ids_given ≡ accepted.ids_given
  pub about_is : new.about.items ≡ old.about.items ++ accepted.id ∷ []
  pub front_is : new.front ≡ min old.front (at_of accepted.change)
  pub rest_is : new.rest ≡ min old.rest (length old.units.items - rest_from accepted.change)
