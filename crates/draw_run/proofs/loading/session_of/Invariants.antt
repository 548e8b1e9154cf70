use Rattle.std.proofs.Common.{◌≡◌, ◌++◌}
use Rattle.std.specs.Vec.Iter.{into_iter_items}
use Rattle.draw_run.specs.Loading.{HasLoaded}
use Rattle.draw_run.proofs.loading.session_of.Given as goal

abbrev pub invariant-loop-unit : goal.invariant-loop-unit
invariant-loop-unit l = record {
  loaded : HasLoaded l.yielded l.session;
  left : l.fn.units.items ≡ l.yielded ++ into_iter_items l.unit-iterator;
}
