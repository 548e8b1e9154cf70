use Rattle.std.proofs.Common.{◌≡◌, ◌++◌, map, Ok}
use Rattle.std.specs.Vec.Iter.{into_iter_items}
use Rattle.access_unit.proofs.stream.gather.Given as goal

abbrev pub invariant-loop-answer : goal.invariant-loop-answer
invariant-loop-answer l = record {
  so_far : l.yielded ≡ map Ok l.units.items;
  left : l.fn.answers.items ≡ l.yielded ++ into_iter_items l.answer-iterator;
}
