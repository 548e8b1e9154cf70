use Rattle.std.proofs.Common.{◌<◌, length, arith}
use Rattle.std.proofs.lemmas.List.{get_or_default}
use Rattle.std.proofs.lemmas.List.Edits.{map_over_more}
use Rattle.output_order.specs.InPlace.{moved}
use Rattle.output_order.proofs.in_place.move_each.Goals as goal

pub loop-key-preserved : goal.loop-key-preserved
loop-key-preserved c =
    let loop = c.loop-key in
    let within : loop.key-index < length loop.keys = omega (arith, c.loop-key-test.true, loop.auto.keys) in
    rw c.moved.ensures (map_over_more (moved c.args.from c.args.to) c.args.keys.now loop.keys loop.key-index _ c.loop-key-test.true loop.invariant
    (get_or_default loop.keys loop.key-index _ _ within))
