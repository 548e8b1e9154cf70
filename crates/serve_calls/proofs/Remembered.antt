-- What can be undone and redone after edits.
use Rattle.std.proofs.Common.{◌≡◌, ◌∙◌, ℕ, ◌+◌, ◌<◌, List, [], ◌∷◌, ◌++◌, length, take, Result, Ok, Err, sym, ap, subst, inl, inr, refl, arith}
use Rattle.edit_history.specs.declared.history.History.{History}
use Rattle.edit_history.specs.Changes.{ChangesAll}
use Rattle.edit_history.specs.Histories.{IsHistory}
use Rattle.edit_history.specs.Texts.{Texts}
use Rattle.stand_in_session.specs.Machines.{Machine}
use Rattle.stream_edits.specs.declared.edits.Edit.{Edit}
use Rattle.stream_edits.specs.declared.receipts.GroupReceipt.{GroupReceipt}
use Rattle.stream_edits.specs.declared.receipts.Receipt.{Receipt}
use Rattle.stream_edits.specs.Edits.{Makes, Register}
use Rattle.stream_edits.specs.Groups.{MakesAll}
use Rattle.edit_history.specs.declared.undo_redo.prepared.OpenStep.{OpenStep}
use Rattle.edit_history.specs.declared.undo_redo.undo_redo.UndoRedo.{UndoRedo}
use Rattle.edit_history.specs.States.{IsAsBefore, IsUnderWay, IsUndoRedo}
use Rattle.edit_history.proofs.UndoRedoLed.{kept-same}
use Rattle.edit_history.proofs.Stepped.{history-same}
use Rattle.serve_calls.specs.declared.server.Server.{Server}
use Rattle.serve_calls.specs.declared.sums.Sums.{Sums}
use Rattle.serve_calls.specs.declared.unmade.EditFault.{EditFault}
use Rattle.serve_calls.specs.declared.unmade.GroupFault.{GroupFault}
use Rattle.serve_calls.specs.Editing.{MakesEdit, MakesEditIn, MakesGroup, MakesStep, sums_after_edit}
use Rattle.serve_calls.specs.Remembering.{AddsStep, Begins, Ends, GoesOn, GoesOnIf, KeepsRest, Remembers}
use Rattle.serve_calls.specs.Sessions.{Steps}
use Rattle.serve_calls.specs.Sums.{bytes_of, bytes_of_edit, with_edit}
use Rattle.serve_calls.specs.Unmade.{MakesOne, MakesTogether}

-- what holds of each step holds of the one that was taken
pub steps-more : {before after : Machine → Type 0} {step more : Machine → Machine → Type 0}
    → ((old new : Machine) → step old new → more old new) → Steps before step after → Steps before more after
steps-more gives steps = (steps.0, steps.1, steps.2, steps.3, steps.4, gives steps.0 steps.1 steps.5)

-- nothing is different but the room that there is, one after the other
pub as-before : (old between new : UndoRedo) → IsAsBefore old between → IsAsBefore between new → IsAsBefore old new
as-before old between new one two = record {
  units = record {
    ids = two.units.ids ∙ one.units.ids;
    texts = two.units.texts ∙ one.units.texts;
    given = two.units.given ∙ one.units.given;
  };
  done = two.done ∙ one.done;
  steps = two.steps ∙ one.steps;
}

pub as-itself : (it : UndoRedo) → IsAsBefore it it
as-itself it = record { units = record { ids = refl; texts = refl; given = refl }; done = refl; steps = refl }

pub keeps-rest : {B S : Type 0} (old between new : Server B S) → KeepsRest old between → KeepsRest between new → KeepsRest old new
keeps-rest old between new one two = record {
  backend = two.backend ∙ one.backend;
  sums = two.sums ∙ one.sums;
  source = two.source ∙ one.source;
}

-- where the room alone is different, the states are the same
pub undo-redo-same : (old new : UndoRedo) (states : List Texts) (register : Register) → IsAsBefore old new
    → IsUndoRedo old states register → IsUndoRedo new states register
undo-redo-same old new states register same is = record {
  kept = kept-same old.units new.units register same.units is.kept;
  history =
      subst (λ (texts : Texts). IsHistory new.history states texts) (sym same.units.texts)
      (history-same old.history new.history states old.units.texts.items same.done same.steps is.history);
}

-- and a step that is under way stays so
pub under-way-same : (old new : UndoRedo) (step : OpenStep) (states : List Texts) (first : Texts) (register : Register) → IsAsBefore old new
    → IsUnderWay old step states first register → IsUnderWay new step states first register
under-way-same old new step states first register same way = record {
  kept = kept-same old.units new.units register same.units way.kept;
  history = history-same old.history new.history states first same.done same.steps way.history;
  changes = subst (λ (texts : Texts). ChangesAll first step.changes.items texts) (sym same.units.texts) way.changes;
}

-- a step of one edit, that is ended
pub remembered : {T E : Type 0} (old begun made done : UndoRedo) (first last : OpenStep) (answer : Result T E) (before after : Register)
    → IsAsBefore old begun → first.changes.items ≡ []
    → ((states : List Texts) (register : Register) → IsUndoRedo old states register → IsUnderWay begun first states old.units.texts.items register)
    → made.history ≡ begun.history → GoesOnIf begun first before answer made last after
    → (0 < length last.changes.items → (states : List Texts) (texts : Texts) (register : Register) → IsUnderWay made last states texts register
    → IsUndoRedo done (take (made.history.done + 1) states ++ made.units.texts.items ∷ []) register)
    → (0 < length last.changes.items → done.history.done ≡ length done.history.steps.items) → (last.changes.items ≡ [] → done ≡ made)
    → Remembers old before answer done after
remembered old begun made done first last (Ok receipt) before after same empty begins kept goes ends at_end nothing = λ states is.
    let way = goes states old.units.texts.items (begins states before is) in
    let some : 0 < length last.changes.items = omega (arith, way.more) in
    record {
      texts = made.units.texts.items;
      is =
          subst (λ (n : ℕ). IsUndoRedo done (take (n + 1) states ++ made.units.texts.items ∷ []) after)
          (ap (λ (it : History). it.done) kept ∙ same.done) (ends some states old.units.texts.items after way.is);
      last = at_end some;
    }
remembered old begun made done first last (Err refused) before after same empty begins kept goes ends at_end nothing =
    subst (λ (it : UndoRedo). IsAsBefore old it) (sym (nothing (ap (λ (step : OpenStep). step.changes.items) goes.1 ∙ empty)))
    (as-before old begun made same goes.0)

-- so is an edit of a server
pub edited : {B S : Type 0} (is_session : B → Machine → Type 0) (old begun made done : Server B S) (first last : OpenStep) (edit : Edit)
    (answer : Result Receipt EditFault) → Begins old begun first → made.history.history ≡ begun.history.history
    → MakesEditIn is_session begun first edit answer made last → Ends made last done → MakesEdit is_session old edit answer done
edited {B} {S} is_session old begun made done first last edit answer begins kept (inl makes) ends =
    let steps = makes.0 in
    inl (
      (
        steps.0,
        steps.1,
        subst (λ (backend : B). is_session backend steps.0) begins.keeps.backend steps.2,
        subst (λ (backend : B). is_session backend steps.1) (sym ends.keeps.backend) steps.3,
        steps.4,
        record {
          answers = steps.5.answers;
          remembers =
              remembered old.history begun.history made.history done.history first last answer steps.0.register steps.1.register
              begins.history begins.empty begins.is kept steps.5.goes_on ends.adds ends.last ends.nothing;
        },
      ),
      ends.keeps.sums ∙ makes.1 ∙ ap (λ (sums : Sums). sums_after_edit sums edit answer) begins.keeps.sums,
      ends.keeps.source ∙ makes.2 ∙ begins.keeps.source,
    )
edited is_session old begun made done first last edit answer begins kept (inr none) ends =
    inr (
      none.0,
      record {
        keeps = keeps-rest old begun done begins.keeps (keeps-rest begun made done none.1.keeps ends.keeps);
        history =
            subst (λ (it : UndoRedo). IsAsBefore old.history it)
            (sym (ends.nothing (ap (λ (step : OpenStep). step.changes.items) none.2 ∙ begins.empty)))
            (as-before old.history begun.history made.history begins.history none.1.history);
      },
    )

-- an edit of a step that is under way, made where the room alone is different
pub edited-in : {B S : Type 0} (is_session : B → Machine → Type 0) (old between new : Server B S) (begun step : OpenStep) (edit : Edit)
    (answer : Result Receipt EditFault) → KeepsRest old between → IsAsBefore old.history between.history
    → MakesEditIn is_session between begun edit answer new step → MakesEditIn is_session old begun edit answer new step
edited-in {B} is_session old between new begun step edit answer keeps same (inl makes) =
    let steps = makes.0 in
    inl (
      (
        steps.0,
        steps.1,
        subst (λ (backend : B). is_session backend steps.0) keeps.backend steps.2,
        steps.3,
        steps.4,
        record {
          answers = steps.5.answers;
          goes_on = goes-on old.history between.history new.history begun step answer steps.0.register steps.1.register same steps.5.goes_on;
        },
      ),
      makes.1 ∙ ap (λ (sums : Sums). sums_after_edit sums edit answer) keeps.sums,
      makes.2 ∙ keeps.source,
    )
  where
    goes-on : {T E : Type 0} (old between new : UndoRedo) (begun step : OpenStep) (answer : Result T E) (before after : Register)
        → IsAsBefore old between → GoesOnIf between begun before answer new step after → GoesOnIf old begun before answer new step after
    goes-on old between new begun step (Ok receipt) before after same goes =
        λ states first way. goes states first (under-way-same old between begun states first before same way)
    goes-on old between new begun step (Err refused) before after same goes = (as-before old between new same goes.0, goes.1)
edited-in is_session old between new begun step edit answer keeps same (inr none) =
    inr (
      none.0,
      record {
        keeps = keeps-rest old between new keeps none.1.keeps;
        history = as-before old.history between.history new.history same none.1.history;
      },
      none.2,
    )

-- a refused edit leaves a step that is under way
pub refused-in : {B S : Type 0} (is_session : B → Machine → Type 0) (old new : Server B S) (begun : OpenStep) (edit : Edit) (refused : EditFault)
    → Steps (is_session old.backend) (λ before after. MakesOne before edit (Err refused) after) (is_session new.backend)
    → new.sums ≡ old.sums → new.source ≡ old.source → new.history ≡ old.history
    → MakesEditIn is_session old begun edit (Err refused) new begun
refused-in is_session old new begun edit refused steps sums source history =
    inl (
      steps-more
          (λ before after answers. record {
            answers = answers;
            goes_on = (subst (λ (it : UndoRedo). IsAsBefore old.history it) (sym history) (as-itself old.history), refl);
          })
          steps,
      sums,
      source,
    )

-- an accepted one goes on with it
pub accepted-in : {B S : Type 0} (is_session : B → Machine → Type 0) (old new : Server B S) (begun step : OpenStep) (edit : Edit) (receipt : Receipt)
    → Steps (is_session old.backend) (λ before after. MakesOne before edit (Ok receipt) after) (is_session new.backend)
    → new.sums ≡ with_edit old.sums receipt.steps (bytes_of_edit edit) → new.source ≡ old.source
    → ((before : Register) (id : ℕ) (after : Register) → Makes before edit id after → (states : List Texts) (first : Texts)
    → IsUnderWay old.history begun states first before → GoesOn begun new.history step after states first)
    → MakesEditIn is_session old begun edit (Ok receipt) new step
accepted-in is_session old new begun step edit receipt steps sums source goes =
    inl (
      steps-more
          (λ before after answers. record {
            answers = answers;
            goes_on = λ states first way. goes before.register receipt.id after.register answers.made states first way;
          })
          steps,
      sums,
      source,
    )

-- a refused group leaves what can be undone and redone
pub group-refused : {B S : Type 0} (is_session : B → Machine → Type 0) (old between new : Server B S) (edits : List Edit) (refused : GroupFault)
    → KeepsRest old between → IsAsBefore old.history between.history → MakesGroup is_session between edits (Err refused) new
    → MakesStep is_session old edits (Err refused) new
group-refused {B} is_session old between new edits refused keeps same makes =
    inl (
      steps-more
          (λ before after answers. record {
            answers = answers;
            remembers = subst (λ (it : UndoRedo). IsAsBefore old.history it) (sym makes.3) same;
          })
          (subst
          (λ (backend : B). Steps (is_session backend) (λ before after. MakesTogether before edits (Err refused) after)
          (is_session new.backend))
          keeps.backend makes.0),
      makes.1 ∙ keeps.sums,
      makes.2 ∙ keeps.source,
    )

-- an accepted one can be undone
pub group-accepted : {B S : Type 0} (is_session : B → Machine → Type 0) (old between made new : Server B S) (edits : List Edit)
    (receipt : GroupReceipt) → KeepsRest old between → IsAsBefore old.history between.history
    → MakesGroup is_session between edits (Ok receipt) made → KeepsRest made new
    → ((before : Register) (ids : List ℕ) (after : Register) → MakesAll before edits ids after → (states : List Texts)
    → IsUndoRedo between.history states before → AddsStep between.history new.history after states)
    → MakesStep is_session old edits (Ok receipt) new
group-accepted {B} is_session old between made new edits receipt keeps same makes rests adds =
    inl (
      steps-more
          (λ before after answers. record {
            answers = answers;
            remembers = λ states is.
                let added =
                adds before.register receipt.ids.items after.register answers.made states
                (undo-redo-same old.history between.history states before.register same is) in
                record {
                  texts = added.texts;
                  is =
                      subst (λ (n : ℕ). IsUndoRedo new.history (take (n + 1) states ++ added.texts ∷ []) after.register) same.done
                      added.is;
                  last = added.last;
                };
          })
          (subst
          (λ (backend : B). Steps (is_session backend) (λ before after. MakesTogether before edits (Ok receipt) after)
          (is_session new.backend))
          keeps.backend
          (subst
          (λ (backend : B). Steps (is_session between.backend) (λ before after. MakesTogether before edits (Ok receipt) after)
          (is_session backend))
          (sym rests.backend) makes.0)),
      rests.sums ∙ makes.1 ∙ ap (λ (sums : Sums). with_edit sums receipt.steps (bytes_of edits)) keeps.sums,
      rests.source ∙ makes.2 ∙ keeps.source,
    )
