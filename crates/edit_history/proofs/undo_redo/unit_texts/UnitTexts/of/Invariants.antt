use Rattle.std.proofs.Common.{◌≡◌, map, take, ℕ, List}
use Rattle.edit_history.proofs.undo_redo.unit_texts.UnitTexts.of.Given as goal

-- those so far are taken
abbrev pub invariant-loop-id : goal.invariant-loop-id
invariant-loop-id l = record {
  ids_are : l.ids.items ≡ map (λ (unit : ℕ × List ℕ). unit.0) (take l.id-index l.units);
  texts_are : l.texts.items ≡ map (λ (unit : ℕ × List ℕ). unit.1) (take l.id-index l.units);
}
