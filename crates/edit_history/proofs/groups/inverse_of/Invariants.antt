use Rattle.std.proofs.Common.{◌≡◌, length}
use Rattle.edit_history.proofs.Changed.{IsBack}
use Rattle.edit_history.proofs.groups.inverse_of.Given as goal

-- so many of the last changes are taken back
abbrev pub invariant-loop-index : goal.invariant-loop-index
invariant-loop-index l = record {
  back : IsBack l.changes l.index l.inverse.items;
  long : length l.inverse.items ≡ l.index;
}
