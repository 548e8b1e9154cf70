use Rattle.std.proofs.Common.{◌≡◌, length, take}
use Rattle.std.specs.Prelude.{zip}
use Rattle.edit_history.proofs.undo_redo.unit_texts.UnitTexts.snapshot.Given as goal

-- those so far are in it
abbrev pub invariant-loop-id : goal.invariant-loop-id
invariant-loop-id l = l.units.items ≡ take (length l.yielded) (zip l.self.ids.items l.self.texts.items)
