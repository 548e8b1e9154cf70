use Rattle.std.proofs.Common.{◌≡◌, map, take}
use Rattle.session_builders.specs.Edits.{edit_in_row}
use Rattle.session_builders.proofs.told.edits_of.Given as goal

-- the edits so far
abbrev pub invariant-loop-told : goal.invariant-loop-told
invariant-loop-told l = l.edits.items ≡ map edit_in_row (take l.told-index l.fn.told)
