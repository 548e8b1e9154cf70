-- What can be undone and redone of a stream, while it is edited.
use Rattle.std.specs.Prelude.{◌≡◌, ◌+◌, ◌<◌, List, [], ◌∷◌, ◌++◌, length, take, Result, Ok, Err}
use Rattle.edit_history.specs.Texts.{Texts}
use Rattle.stream_edits.specs.Edits.{Register}
use Rattle.edit_history.specs.declared.undo_redo.prepared.OpenStep.{OpenStep}
use Rattle.edit_history.specs.declared.undo_redo.undo_redo.UndoRedo.{UndoRedo}
use Rattle.edit_history.specs.States.{IsAsBefore, IsUnderWay, IsUndoRedo}
use Rattle.stand_in_session.specs.Machines.{Machine}
use Rattle.serve_calls.specs.declared.server.Server.{Server}
use Rattle.serve_calls.specs.Sessions.{Stays}

-- a step more can be undone, after which the stream has its texts as they are, and nothing can be redone
pub record AddsStep (old new : UndoRedo) (after : Register) (states : List Texts) : Type 0 where
  pub texts : Texts
  pub is : IsUndoRedo new (take (old.history.done + 1) states ++ texts ∷ []) after
  pub last : new.history.done ≡ length new.history.steps.items

-- after an answer: a step more, if it is accepted; else nothing is different but the room that there is
abbrev pub Remembers : {T E : Type 0} → UndoRedo → Register → Result T E → UndoRedo → Register → Type 0
Remembers old before (Ok receipt) new after = (states : List Texts) → IsUndoRedo old states before → AddsStep old new after states
Remembers old before (Err refused) new after = IsAsBefore old new

-- a step that is under way has one change more
pub record GoesOn (begun : OpenStep) (new : UndoRedo) (step : OpenStep) (after : Register) (states : List Texts) (first : Texts) : Type 0 where
  pub is : IsUnderWay new step states first after
  pub more : length step.changes.items ≡ length begun.changes.items + 1

-- after an answer to an edit of a step that is under way: it goes on, if the edit is accepted; else nothing is different but
-- the room that there is
abbrev pub GoesOnIf : {T E : Type 0} → UndoRedo → OpenStep → Register → Result T E → UndoRedo → OpenStep → Register → Type 0
GoesOnIf old begun before (Ok receipt) new step after =
    (states : List Texts) (first : Texts) → IsUnderWay old begun states first before → GoesOn begun new step after states first
GoesOnIf old begun before (Err refused) new step after = IsAsBefore old new × (step ≡ begun)

-- nothing is asked of the session, and nothing is different but the room that there is
pub record KeepsRest {B S : Type 0} (old new : Server B S) : Type 0 where
  pub backend : new.backend ≡ old.backend
  pub sums : new.sums ≡ old.sums
  pub source : new.source ≡ old.source

-- whichever session may be the one may be it still, and nothing else is different
pub record KeepsSession {B S : Type 0} (is_session : B → Machine → Type 0) (old new : Server B S) : Type 0 where
  pub stays : Stays (is_session old.backend) (is_session new.backend)
  pub sums : new.sums ≡ old.sums
  pub source : new.source ≡ old.source
  pub history : new.history ≡ old.history

pub record Rests {B S : Type 0} (old new : Server B S) : Type 0 where
  pub keeps : KeepsRest old new
  pub history : IsAsBefore old.history new.history

-- a step begins, before its first change
pub record Begins {B S : Type 0} (old new : Server B S) (step : OpenStep) : Type 0 where
  pub keeps : KeepsRest old new
  pub history : IsAsBefore old.history new.history
  pub empty : step.changes.items ≡ []
  pub is : (states : List Texts) (register : Register) → IsUndoRedo old.history states register
      → IsUnderWay new.history step states old.history.units.texts.items register

-- a step ends: it can be undone, unless it has no change, and then nothing can be redone
pub record Ends {B S : Type 0} (old : Server B S) (step : OpenStep) (new : Server B S) : Type 0 where
  pub keeps : KeepsRest old new
  pub adds : 0 < length step.changes.items → (states : List Texts) (first : Texts) (register : Register)
      → IsUnderWay old.history step states first register
      → IsUndoRedo new.history (take (old.history.history.done + 1) states ++ old.history.units.texts.items ∷ []) register
  pub last : 0 < length step.changes.items → new.history.history.done ≡ length new.history.history.steps.items
  pub nothing : step.changes.items ≡ [] → new.history ≡ old.history
