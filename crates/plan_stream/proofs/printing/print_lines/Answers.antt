use Rattle.std.proofs.Common.{arith}
use Rattle.plan_stream.proofs.KeptTexts.{next_kept, no_kept, printed-all, printed-front, printed-more}
use Rattle.console_io.proofs.Chunked.{adds-front}
use Rattle.plan_stream.proofs.printing.print_lines.Goals as goal

pub loop-place-preserved : goal.loop-place-preserved
loop-place-preserved g c =
    let place = c.loop-place.place in
    let item = c.index-outcomes-place in
    let here = c.loop-place-test.true in
    let next = next_kept c.args.outcomes.now c.args.positions.now c.args.tails.now place c.new.result item.result c.at.result.now
    here (omega (arith, here, c.requires.positions)) (omega (arith, here, c.requires.tails)) item.is c.new.ensures c.at.ensures in
    printed-more _ _ _ _ _ _ _ _ _ _ c.loop-place.invariant next c.in_ok-print_unit.ensures.ok

pub returns-clause-written : goal.returns-clause-written
returns-clause-written g c =
    adds-front _ _ _ _ _ (printed-all _ _ _ _ _ _ c.loop-place.invariant (no_kept _ c.args.outcomes.now _ _ c.loop-place.place c.loop-place-test.false))

pub returns-in_err-print_unit-clause-written : goal.returns-in_err-print_unit-clause-written
returns-in_err-print_unit-clause-written g c =
    let place = c.loop-place.place in
    let item = c.index-outcomes-place in
    let here = c.loop-place-test.true in
    let next = next_kept c.args.outcomes.now c.args.positions.now c.args.tails.now place c.new.result item.result c.at.result.now
    here (omega (arith, here, c.requires.positions)) (omega (arith, here, c.requires.tails)) item.is c.new.ensures c.at.ensures in
    printed-front _ _ _ _ _ _ _ _ _ c.loop-place.invariant next c.in_err-print_unit.ensures.written
