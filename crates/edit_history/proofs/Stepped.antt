-- What can be undone and redone, before a step and after it.
use Rattle.std.proofs.Common.{◌≡◌, ℕ, ◌+◌, ◌≤◌, List, length, sym, subst, Some, arith}
use Rattle.std.specs.Prelude.{slice_get}
use Rattle.stream_edits.specs.declared.edits.Edit.{Edit}
use Rattle.stream_edits.specs.Edits.{Register}
use Rattle.stream_edits.specs.Groups.{MakesAll}
use Rattle.edit_history.specs.declared.history.History.{History}
use Rattle.access_unit.specs.StreamUnits.{most_units}
use Rattle.edit_history.specs.declared.groups.StepGroup.{StepGroup}
use Rattle.edit_history.specs.declared.history.HistoryStep.{HistoryStep}
use Rattle.edit_history.specs.Groups.{TakesTo as TakesBy}
use Rattle.edit_history.specs.Histories.{IsHistory}
use Rattle.edit_history.specs.Texts.{Texts}
use Rattle.edit_history.specs.declared.undo_redo.unit_texts.UnitTexts.{UnitTexts}
use Rattle.edit_history.specs.KeptTexts.{IsKept}
use Rattle.edit_history.specs.States.{TakesTo}
use Rattle.edit_history.proofs.UndoRedoLed.{kept-as}
use Rattle.stream_edits.proofs.OneEdit.{all_edits}

-- a history with the same steps, of which as many are done
pub history-same : (old new : History) (states : List Texts) (texts : Texts) → new.done ≡ old.done → new.steps.items ≡ old.steps.items
    → IsHistory old states texts → IsHistory new states texts
history-same old new states texts done steps is = record {
  fits = record {
    within = omega (arith, done, subst (λ (steps : List HistoryStep). old.done ≤ length steps) (sym steps) is.fits.within);
    count = subst (λ (steps : List HistoryStep). length states ≡ length steps + 1) (sym steps) is.fits.count;
    each = λ at step before after stands.
        is.fits.each at step before after (subst (λ (steps : List HistoryStep). slice_get steps at ≡ Some step) steps stands);
  };
  now = subst (λ (n : ℕ). slice_get states n ≡ Some texts) (sym done) is.now;
}

-- the stream after edits that are accepted is the one that they lead to
pub taken-kept : (old : Register) (edits : List Edit) (to : Texts) (units : UnitTexts) (ids : List ℕ) (new : Register) → TakesTo old edits to units
    → MakesAll old edits ids new → IsKept units new
taken-kept old edits to units ids new takes makes =
    subst (λ (register : Register). IsKept units register) (all_edits old edits takes.about ids takes.new new takes.makes makes).registers takes.kept

-- a group that takes a step back, or makes it again, leads to its texts
pub takes-group : (old : Register) (texts to : Texts) (group : StepGroup) (edits : List Edit) (units : UnitTexts) → length to ≤ most_units
    → TakesBy old texts group to → edits ≡ group.edits.items → units.texts.items ≡ to → units.ids.items ≡ group.ids.items
    → units.ids_given ≡ group.ids_given → TakesTo old edits to units
takes-group old texts to group edits units bounded takes edits_are texts_are ids_are given_is = record {
  about = takes.leads.about;
  new = takes.leads.new;
  makes = subst (λ (edits : List Edit). MakesAll old edits takes.leads.about takes.leads.new) (sym edits_are) takes.leads.makes;
  kept = kept-as units to group.ids.items group.ids_given takes.leads.new takes.leads.is bounded texts_are ids_are given_is;
  texts_are = texts_are;
}
