use Rattle.std.proofs.Common.{◌<◌, length, arith}
use Rattle.std.proofs.lemmas.List.Edits.{map_over_more}
use Rattle.checkpoints.specs.Changes.{moved}
use Rattle.checkpoints.proofs.shifting.move_places.Goals as goal

pub loop-at-preserved : goal.loop-at-preserved
loop-at-preserved c =
    let old = c.args.places.now in
    let within : c.loop-at.at < length old.items = omega (arith, c.loop-at-test.true, c.len-at-end.ensures, old.ok.0) in
    record {
      items = rw c.moved.ensures (map_over_more (moved c.args.from c.args.change) old.items c.loop-at.places.items c.loop-at.at c.index.result.now within c.loop-at.invariant.items c.index.ensures);
      len = c.loop-at.invariant.len;
      capacity = c.loop-at.invariant.capacity;
    }
