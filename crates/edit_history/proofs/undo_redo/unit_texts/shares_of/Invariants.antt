use Rattle.std.proofs.Common.{◌≡◌, take}
use Rattle.edit_history.proofs.undo_redo.unit_texts.shares_of.Given as goal

-- those so far are shared
abbrev pub invariant-loop-text : goal.invariant-loop-text
invariant-loop-text l = l.shares.items ≡ take l.text-index l.texts
