-- RecordedStep steps that a server makes again.
use Rattle.std.specs.Prelude.{◌≡◌, ◌≢◌, ◌⊎◌, ℕ, List, [], ◌∷◌, map, Ok, Err}
use Rattle.stream_edits.specs.declared.edits.Edit.{Edit}
use Rattle.stream_edits.specs.declared.group_refused.GroupRefused.{GroupRefused}
use Rattle.stream_edits.specs.declared.group_refused.GroupRefused.TheVariants as groups
use Rattle.stream_edits.specs.declared.receipts.GroupReceipt.{GroupReceipt}
use Rattle.stream_edits.specs.declared.receipts.Receipt.{Receipt}
use Rattle.stream_edits.specs.declared.refusals.EditRefused.{EditRefused}
use Rattle.stream_edits.specs.declared.refusals.EditRefused.TheVariants as refusals
use Rattle.stream_edits.specs.Edits.{Register}
use Rattle.stream_edits.specs.GroupRefusals.{IsGroupRefused}
use Rattle.stream_edits.specs.Refusals.{IsRefused}
use Rattle.stand_in_session.specs.Machines.{Machine}
use Rattle.session_journal.specs.declared.steps.step.RecordedStep.{RecordedStep}
use Rattle.session_journal.specs.declared.steps.step.RecordedStep.TheVariants.{Edits, Load, Snapshot}
use Rattle.stream_session.specs.Machines.{IsBegun}
use Rattle.stream_edits.specs.Snapshots.{IsOf, SnapshotValue}
use Rattle.edit_history.specs.declared.undo_redo.prepared.OpenStep.{OpenStep}
use Rattle.edit_history.specs.States.{IsUndoRedo}
use Rattle.serve_calls.specs.declared.server.Server.{Server}
use Rattle.serve_calls.specs.declared.unmade.EditFault.TheVariants as edit_fault
use Rattle.serve_calls.specs.declared.unmade.GroupFault.TheVariants as group_fault
use Rattle.serve_calls.specs.Editing.{MakesEdit, MakesEditIn, MakesStep}
use Rattle.serve_calls.specs.Remembering.{Begins, Ends}

module _ {B S : Type 0} (is_session : B → Machine → Type 0) where
  -- a recorded edit is made again in a step that is under way
  abbrev pub MakesOneIn : Server B S → OpenStep → Edit → Server B S → OpenStep → Type 0
  MakesOneIn old begun edit new step = (receipt : Receipt) × MakesEditIn is_session old begun edit (Ok receipt) new step

  -- recorded edits are made again, each by itself, in a step that is under way
  abbrev pub MakesEach : Server B S → OpenStep → List Edit → Server B S → OpenStep → Type 0
  MakesEach old begun [] new step = (new ≡ old) × (step ≡ begun)
  MakesEach old begun (edit ∷ edits) new step =
      (next : Server B S) × (more : OpenStep) × MakesOneIn old begun edit next more × MakesEach next more edits new step

  -- recorded edits are made again, together or a single one by itself
  abbrev pub ReplaysEdits : Server B S → List Edit → Server B S → Type 0
  ReplaysEdits old edits new =
      ((edit : Edit) × (receipt : Receipt) × (edits ≡ edit ∷ []) × MakesEdit is_session old edit (Ok receipt) new)
      ⊎ ((receipt : GroupReceipt) × MakesStep is_session old edits (Ok receipt) new)

  -- a recorded edit is refused, and not for lack of memory; nothing is made of it
  abbrev pub RefusesEdit : Server B S → Edit → Server B S → Type 0
  RefusesEdit old edit new =
      (refused : EditRefused) × (refused ≢ refusals.Memory)
      × (MakesEdit is_session old edit (Err (edit_fault.Refused refused)) new
      ⊎ (((register : Register) → IsRefused register edit refused) × (new ≡ old)))

  -- recorded edits are refused together, and not for lack of memory; nothing is made of them
  abbrev pub RefusesGroup : Server B S → List Edit → Server B S → Type 0
  RefusesGroup old edits new =
      (refused : GroupRefused) × (refused ≢ groups.Memory)
      × (MakesStep is_session old edits (Err (group_fault.Refused refused)) new
      ⊎ (((register : Register) → IsGroupRefused register edits refused) × (new ≡ old)))

  -- recorded edits are refused, together or a single one by itself
  abbrev pub RefusesEdits : Server B S → List Edit → Server B S → Type 0
  RefusesEdits old edits new =
      ((edit : Edit) × (edits ≡ edit ∷ []) × RefusesEdit old edit new) ⊎ RefusesGroup old edits new

  -- a session that begins from the snapshot may be the one then, nothing can be undone or redone, and
  -- the texts are the snapshot's
  pub record BeginsFrom (old : Server B S) (snapshot : SnapshotValue) (new : Server B S) : Type 0 where
    pub register : Register
    pub is_of : IsOf snapshot register
    pub capacity : ℕ
    pub session : Machine
    pub begun : IsBegun capacity register session
    pub is : is_session new.backend session
    pub history : IsUndoRedo new.history (map (λ unit. unit.1) snapshot.units ∷ []) register
    pub sums : new.sums ≡ old.sums
    pub source : new.source ≡ old.source

  -- a recorded step is made again
  abbrev pub ReplaysOne : Server B S → RecordedStep → Server B S → Type 0
  ReplaysOne old (Edits edits) new = ReplaysEdits old edits new
  ReplaysOne old (Load edits) new =
      (begun done : Server B S) × (first last : OpenStep) × Begins old begun first × MakesEach begun first edits done last
      × Ends done last new
  ReplaysOne old (Snapshot snapshot) new = BeginsFrom old snapshot new

  -- a recorded step is refused, and nothing is made of it
  abbrev pub RefusesOne : Server B S → RecordedStep → Server B S → Type 0
  RefusesOne old (Edits edits) new = RefusesEdits old edits new
  RefusesOne old (Load edits) new = ⊥
  RefusesOne old (Snapshot snapshot) new = ⊥

  -- recorded steps are made again, one after the other
  abbrev pub ReplaysAll : Server B S → List RecordedStep → Server B S → Type 0
  ReplaysAll old [] new = new ≡ old
  ReplaysAll old (step ∷ steps) new = (next : Server B S) × ReplaysOne old step next × ReplaysAll next steps new
