use Rattle.std.proofs.Common.{arith, slice_get}
use Rattle.stream_svg.specs.Rows.{shown_unit}
use Rattle.stream_svg.proofs.Growing.{texts-at}
use Rattle.stream_svg.proofs.end.write_output.Goals as goal

pub loop-shown-preserved : goal.loop-shown-preserved
loop-shown-preserved c =
    let before = c.loop-shown in
    record {
      counted = omega (arith, before.invariant.counted);
      grown = texts-at (λ slot shown. shown_unit c.args.grid slot shown (slice_get c.args.units.now shown.place)) c.args.row.now before.shown-index before.slot _ _ _ _ c.loop-shown-test.true
          before.invariant.counted before.invariant.grown c.in_ok-write_slot.ensures;
    }
