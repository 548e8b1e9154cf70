use Rattle.std.proofs.Common.{◌+◌, length, arith}
use Rattle.stream_svg.specs.Shapes.{fill_text}
use Rattle.stream_svg.proofs.Growing.{texts-at}
use Rattle.stream_svg.proofs.boxes.write_fills.Goals as goal

pub loop-letter-preserved : goal.loop-letter-preserved
loop-letter-preserved c =
    let letters = c.letters_of-letters.result.now in
    let before = c.loop-letter in
    record {
      counted = omega (arith, before.invariant.counted);
      grown = texts-at (fill_text c.args.area (length letters)) letters before.letter-index before.place _ _ _ _ c.loop-letter-test.true
          before.invariant.counted before.invariant.grown c.in_ok-write_fill.ensures;
    }
