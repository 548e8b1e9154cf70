use Rattle.std.proofs.Common.{◌≡◌, ◌++◌, string_bytes}
use Rattle.std.specs.Vec.Iter.{into_iter_items}
use Rattle.draw_run.specs.Making.{AreMade}
use Rattle.draw_run.proofs.edits.make_edits.Given as goal

abbrev pub invariant-loop-number : goal.invariant-loop-number
invariant-loop-number l = record {
  made : AreMade l.fn.session l.yielded (string_bytes l.told) l.session;
  left : l.fn.commands.items ≡ l.yielded ++ into_iter_items l.number-iterator;
}
