-- A server that goes on from the steps of a journal.
use Rattle.std.specs.Prelude.{◌≡◌, ◌⊎◌, List, [], ◌∷◌, ◌++◌, Some}
use Rattle.stand_in_session.specs.Machines.{Machine}
use Rattle.session_journal.specs.declared.steps.step.RecordedStep.{RecordedStep}
use Rattle.stream_edits.specs.Edits.{Register}
use Rattle.edit_history.specs.Texts.{Texts}
use Rattle.edit_history.specs.States.{IsUndoRedo}
use Rattle.serve_calls.specs.declared.journaled.Journaled.{Journaled}
use Rattle.serve_calls.specs.declared.server.Server.{Server}
use Rattle.serve_calls.specs.Replaying.{RefusesOne, ReplaysAll, ReplaysOne}

-- the session that may be the one of what is below the journal
abbrev pub in_journaled : {B K : Type 0} → (B → Machine → Type 0) → Journaled B K → Machine → Type 0
in_journaled is_session it machine = is_session it.backend machine

module _ {B K S : Type 0} (is_session : B → Machine → Type 0) (stands : K → List RecordedStep → Type 0)
    (ends : K → List RecordedStep → RecordedStep → Type 0) where
  -- a last recorded step is made again; or it is refused and taken off its journal
  abbrev pub ReplaysLast : Server (Journaled B K) S → K → RecordedStep → K → Server (Journaled B K) S → Type 0
  ReplaysLast old journal last kept new =
      (ReplaysOne (in_journaled is_session) old last new × (kept ≡ journal))
      ⊎ (RefusesOne (in_journaled is_session) old last new × ((steps : List RecordedStep) → ends journal steps last → stands kept steps))

  -- recorded steps are made again, and behind them a last one, if it isn't refused
  abbrev pub ReplaysOnto : Server (Journaled B K) S → K → List RecordedStep → RecordedStep → K → Server (Journaled B K) S → Type 0
  ReplaysOnto old journal steps last kept new =
      (past : Server (Journaled B K) S) × ReplaysAll (in_journaled is_session) old steps past × ReplaysLast past journal last kept new

  -- all recorded steps are made again, but for a last one that is refused
  abbrev pub ReplaysSteps : Server (Journaled B K) S → K → List RecordedStep → K → Server (Journaled B K) S → Type 0
  ReplaysSteps old journal steps kept new =
      ((steps ≡ []) × (kept ≡ journal) × (new ≡ old))
      ⊎ ((front : List RecordedStep) × (last : RecordedStep) × (steps ≡ front ++ last ∷ []) × ReplaysOnto old journal front last kept new)

  -- recorded steps are made again, nothing of them can be undone, and what follows is recorded behind them
  pub record Resumes (old : Server (Journaled B K) S) (journal : K) (steps : List RecordedStep) (new : Server (Journaled B K) S) : Type 0 where
    pub kept : K
    pub done : Server (Journaled B K) S
    pub replays : ReplaysSteps old journal steps kept done
    pub journal_is : new.backend ≡ record done.backend { journal = Some kept }
    pub forgets : (states : List Texts) (register : Register) → IsUndoRedo done.history states register
        → IsUndoRedo new.history (done.history.units.texts.items ∷ []) register
    pub sums : new.sums ≡ done.sums
    pub source : new.source ≡ done.source
