use Rattle.std.proofs.Common.{◌∷◌, [], append_assoc}
use Rattle.std.specs.Vec.Iter.{into_iter_items}
use Rattle.draw_run.proofs.loading.session_of.Goals as goal

pub loop-unit-preserved : goal.loop-unit-preserved
loop-unit-preserved c =
    let before = c.loop-unit in
    let next = into_iter_items c.next.new.self in
    record {
      loaded = c.in_ok-insert_last.ensures before.yielded before.invariant.loaded;
      left = rw (append_assoc before.yielded (c.in-Some.unit ∷ []) next, ← c.in-Some.ensures.steps.0) before.invariant.left;
    }
