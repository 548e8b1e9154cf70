use Rattle.std.proofs.Common.{arith}
use Rattle.stream_svg.specs.Lines.{way_at}
use Rattle.stream_svg.proofs.Growing.{texts-at}
use Rattle.stream_svg.proofs.beginning.write_ways.Goals as goal

pub loop-shown-preserved : goal.loop-shown-preserved
loop-shown-preserved c =
    let before = c.loop-shown in
    record {
      counted = omega (arith, before.invariant.counted);
      grown = texts-at (way_at c.args.grid) c.args.row.now before.shown-index before.slot _ _ _ _ c.loop-shown-test.true
          before.invariant.counted before.invariant.grown c.in_ok-write_way_at.ensures;
    }
