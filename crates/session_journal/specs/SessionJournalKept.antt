-- What is recorded of a session's steps, and what a crash leaves.
use Rattle.std.specs.Prelude.{◌≡◌, ◌⊎◌, ℕ, zero, suc, List, [], ◌∷◌, ◌++◌, take, drop, All, Bool, true, false}
use Rattle.edit_journal.specs.declared.fault.JournalFault.{JournalFault}
use Rattle.edit_journal.specs.declared.fault.JournalFault.TheVariants as fault
use Rattle.session_journal.specs.declared.steps.step.RecordedStep.{RecordedStep}
use Rattle.session_journal.specs.declared.steps.step.RecordedStep.TheVariants.{Edits, Load, Snapshot}
use Rattle.session_journal.specs.Records.{lines_of_steps}
use Rattle.session_journal.specs.declared.unkept.Unkept.{Unkept}
use Rattle.session_journal.specs.declared.unkept.Unkept.TheVariants.{Memory, Unwritten}

-- why edits aren't recorded where the journal fails so
abbrev pub unkept_of : JournalFault → Unkept
unkept_of fault.NotAJournal = Unwritten
unkept_of fault.Locked = Unwritten
unkept_of fault.Damaged = Unwritten
unkept_of fault.Full = Unwritten
unkept_of fault.Failed = Unwritten
unkept_of fault.Shut = Unwritten
unkept_of fault.TooLarge = Unwritten
unkept_of fault.Memory = Memory

-- the steps that stood stand still
abbrev pub Stays : (List RecordedStep → Type 0) → (List RecordedStep → Type 0) → Type 0
Stays before after = (steps : List RecordedStep) → before steps → after steps

-- behind the steps that stood there is one more
abbrev pub AddsOne : (List RecordedStep → Type 0) → RecordedStep → (List RecordedStep → Type 0) → Type 0
AddsOne before step after = (steps : List RecordedStep) → before steps → after (steps ++ step ∷ [])

-- and it is the last one, behind them
abbrev pub EndsWith : (List RecordedStep → Type 0) → RecordedStep → (List RecordedStep → RecordedStep → Type 0) → Type 0
EndsWith before step ends = (steps : List RecordedStep) → before steps → ends steps step

-- a journal has the same lines of both
abbrev pub AreAlike : List RecordedStep → List RecordedStep → Type 0
AreAlike one other = lines_of_steps 0 1 one ≡ lines_of_steps 0 1 other

-- a crash leaves what it might have left before, or those that stood with one more
abbrev pub LeavesOr : (List RecordedStep → Type 0) → (List RecordedStep → Type 0) → RecordedStep → (List RecordedStep → Type 0) → Type 0
LeavesOr left stood step leaves =
    (steps : List RecordedStep) → leaves steps → left steps ⊎ ((before : List RecordedStep) → stood before → AreAlike steps (before ++ step ∷ []))

-- a crash leaves what it might have left before, or these in the place of those that stood
abbrev pub LeavesOrOnly : (List RecordedStep → Type 0) → (List RecordedStep → Type 0) → List RecordedStep → (List RecordedStep → Type 0) → Type 0
LeavesOrOnly left stood only leaves =
    (steps : List RecordedStep) → leaves steps → left steps ⊎ ((before : List RecordedStep) → stood before → AreAlike steps only)

-- the step is a snapshot
abbrev pub is_snapshot : RecordedStep → Bool
is_snapshot (Edits edits) = false
is_snapshot (Load edits) = false
is_snapshot (Snapshot snapshot) = true

-- none of the steps but the first is a snapshot
abbrev pub IsFirstOnly : List RecordedStep → Type 0
IsFirstOnly steps = All (λ step. is_snapshot step ≡ false) (drop 1 steps)

-- steps with what is left of a last one of which so many edits were made
abbrev pub with_left : List RecordedStep → RecordedStep → ℕ → List RecordedStep
with_left steps (Edits edits) zero = steps
with_left steps (Edits edits) (suc made) = steps ++ Edits edits ∷ []
with_left steps (Load edits) zero = steps
with_left steps (Load edits) (suc made) = steps ++ Load (take (suc made) edits) ∷ []
with_left steps (Snapshot snapshot) zero = steps
with_left steps (Snapshot snapshot) (suc made) = steps ++ Snapshot snapshot ∷ []
