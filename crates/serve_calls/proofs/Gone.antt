-- What a server's steps are after an undo or a redo.
use Rattle.std.proofs.Common.{◌≡◌, ℕ, ◌+◌, ◌-◌, ◌<◌, List, [], length, get_or, Some, Ok, Err, slice_get, inl, arith}
use Rattle.std.proofs.lemmas.Option.{slice_get-get_or}
use Rattle.edit_history.specs.Texts.{Texts}
use Rattle.stand_in_session.specs.Machines.{Machine}
use Rattle.stream_edits.specs.declared.edits.Edit.{Edit}
use Rattle.stream_edits.specs.declared.receipts.GroupReceipt.{GroupReceipt}
use Rattle.stream_edits.specs.Edits.{Register}
use Rattle.stream_edits.specs.Groups.{MakesAll}
use Rattle.edit_history.specs.declared.undo_redo.undo_redo.UndoRedo.{UndoRedo}
use Rattle.edit_history.specs.declared.undo_redo.unit_texts.UnitTexts.{UnitTexts}
use Rattle.edit_history.specs.States.{IsUndoRedo, TakesTo}
use Rattle.serve_calls.specs.declared.server.Server.{Server}
use Rattle.serve_calls.specs.declared.unmade.GroupFault.{GroupFault}
use Rattle.serve_calls.specs.Editing.{MakesGroup}
use Rattle.serve_calls.specs.Undoing.{GoesBy, Redoes, Undoes}
use Rattle.serve_calls.proofs.Remembered.{steps-more}

-- each state that there is stands in its place
pub state-there : (states : List Texts) (at : ℕ) → at < length states → slice_get states at ≡ Some (get_or states at [])
state-there states at within = slice_get-get_or states at [] within

-- what taking a step back makes of a history
abbrev pub LeadsBack : UndoRedo → UndoRedo → UnitTexts → Type 0
LeadsBack old new units =
    (states : List Texts) (before : Register) (at : ℕ) (texts : Texts) (made : List Edit) (ids : List ℕ) (after : Register)
    → IsUndoRedo old states before → old.history.done ≡ at + 1 → slice_get states at ≡ Some texts → TakesTo before made texts units
    → MakesAll before made ids after → IsUndoRedo new states after

-- what making a step again makes of it
abbrev pub LeadsOn : UndoRedo → UndoRedo → UnitTexts → Type 0
LeadsOn old new units =
    (states : List Texts) (before : Register) (texts : Texts) (made : List Edit) (ids : List ℕ) (after : Register)
    → IsUndoRedo old states before → slice_get states (old.history.done + 1) ≡ Some texts → TakesTo before made texts units
    → MakesAll before made ids after → IsUndoRedo new states after

-- where the last step is taken back, the texts are those before it
pub is-undone : (old new : UndoRedo) (edits : List Edit) (units : UnitTexts) → 0 < old.history.done → Undoes old edits units
    → LeadsBack old new units → (before : Register) (ids : List ℕ) (after : Register) → MakesAll before edits ids after → (states : List Texts)
    → IsUndoRedo old states before → IsUndoRedo new states after
is-undone old new edits units some undoes follows before ids after makes states is =
    let at : ℕ = old.history.done - 1 in
    let done : old.history.done ≡ at + 1 = omega (arith, some) in
    let within : at < length states = omega (arith, some, is.history.fits.within, is.history.fits.count) in
    let there = state-there states at within in
    follows states before at (get_or states at []) edits ids after is done there
    (undoes states before is at (get_or states at []) done there) makes

-- where the next step is made again, the texts are those after it
pub is-redone : (old new : UndoRedo) (edits : List Edit) (units : UnitTexts) → old.history.done < length old.history.steps.items
    → Redoes old edits units → LeadsOn old new units → (before : Register) (ids : List ℕ) (after : Register) → MakesAll before edits ids after → (states : List Texts)
    → IsUndoRedo old states before → IsUndoRedo new states after
is-redone old new edits units some redoes follows before ids after makes states is =
    let within : old.history.done + 1 < length states = omega (arith, some, is.history.fits.count) in
    let there = state-there states (old.history.done + 1) within in
    follows states before (get_or states (old.history.done + 1) []) edits ids after is there
    (redoes states before is (get_or states (old.history.done + 1) []) there) makes

-- the session accepted the group, so that so many of the same steps are done
pub gone : {B S : Type 0} (is_session : B → Machine → Type 0) (done : ℕ) (old made : Server B S) (new : UndoRedo) (edits : List Edit)
    (receipt : GroupReceipt) → MakesGroup is_session old edits (Ok receipt) made
    → new.history.done ≡ done → new.history.steps.items ≡ old.history.history.steps.items
    → ((before : Register) (ids : List ℕ) (after : Register) → MakesAll before edits ids after → (states : List Texts)
    → IsUndoRedo old.history states before → IsUndoRedo new states after)
    → GoesBy is_session done old edits (Ok receipt) (record made { history = new })
gone is_session done old made new edits receipt makes done_are steps_are leads =
    inl (
      steps-more
          (λ before after answers. record {
            answers = answers;
            goes = record {
              done_are = done_are;
              steps_are = steps_are;
              is = λ states is. leads before.register receipt.ids.items after.register answers.made states is;
            };
          })
          makes.0,
      makes.1,
      makes.2,
    )

-- and where it refused it they stay
pub gone-refused : {B S : Type 0} (is_session : B → Machine → Type 0) (done : ℕ) (old made : Server B S) (edits : List Edit)
    (refused : GroupFault) → MakesGroup is_session old edits (Err refused) made → GoesBy is_session done old edits (Err refused) made
gone-refused is_session done old made edits refused makes =
    inl (steps-more (λ before after answers. record { answers = answers; goes = makes.3 }) makes.0, makes.1, makes.2)
