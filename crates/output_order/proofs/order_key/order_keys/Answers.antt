use Rattle.std.proofs.Common.{arith, rules}
use Rattle.std.proofs.lemmas.Int.{to_z-of_z}
use mir.Val.{SFits}
use mir.Syntax.{w32}
use Rattle.output_order.proofs.OrderedKeys.{keys-fault, keys-valid}
use Rattle.output_order.proofs.order_key.order_keys.Goals as goal

pub loop-offset-preserved-in_default : goal.loop-offset-preserved-in_default
loop-offset-preserved-in_default c =
    let loop = c.loop-offset in
    record {
      keys = keys-fault c.args.units.now loop.offset loop.keys.items _ c.loop-offset-test.true loop.invariant.keys c.in_default.is;
      spare = loop.invariant.spare;
    }

pub loop-offset-preserved : goal.loop-offset-preserved
loop-offset-preserved c =
    let loop = c.loop-offset in
    let shown = c.in-Some.shown in
    let fits : SFits w32 shown.order = search rules in
    record {
      keys =
          rw (c.in_ok-push.ensures.items, to_z-of_z w32 shown.order fits)
          (keys-valid c.args.units.now loop.offset loop.keys.items _ c.loop-offset-test.true loop.invariant.keys shown c.in-Some.is);
      spare = omega (arith, loop.invariant.spare, c.in_ok-push.ensures.capacity);
    }
