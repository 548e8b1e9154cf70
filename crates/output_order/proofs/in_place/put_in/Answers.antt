use Rattle.std.proofs.Common.{arith, rules}
use Rattle.std.proofs.lemmas.Int.{to_z-of_z}
use mir.Val.{SFits}
use mir.Syntax.{w32}
use Rattle.output_order.proofs.Insertion.{put-fault, put-valid}
use Rattle.output_order.proofs.in_place.put_in.Goals as goal

pub loop-index-preserved-in_default : goal.loop-index-preserved-in_default
loop-index-preserved-in_default c =
    let loop = c.loop-index in
    record {
      sorted = loop.invariant.sorted;
      permutation = put-fault c.args.place c.args.units.now c.args.keys.now.items loop.keys.items loop.index _ c.loop-index-test.true loop.invariant.permutation c.in_default.is;
      spare = omega (arith, loop.invariant.spare);
      capacity = loop.invariant.capacity;
    }

pub loop-index-preserved : goal.loop-index-preserved
loop-index-preserved c =
    let loop = c.loop-index in
    let shown = c.in-Some.shown in
    let fits : SFits w32 shown.order = search rules in
    let permutation = rw (to_z-of_z w32 shown.order fits) at c.insert.ensures.permutation in
    record {
      sorted = c.insert.ensures.sorted;
      permutation = put-valid c.args.place c.args.units.now c.args.keys.now.items loop.keys.items loop.index _ c.loop-index-test.true loop.invariant.permutation
          shown c.insert.new.keys.items c.in-Some.is permutation;
      spare = omega (arith, loop.invariant.spare, c.insert.ensures.len, c.insert.ensures.capacity, c.loop-index-test.true);
      capacity = omega (arith, loop.invariant.capacity, c.insert.ensures.capacity);
    }
