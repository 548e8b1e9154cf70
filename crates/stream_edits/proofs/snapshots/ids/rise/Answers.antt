use Rattle.std.proofs.Common.{IsTrue, false, slice_index_or, refl, arith}
use Rattle.std.proofs.lemmas.Bool.{false≢true}
use Rattle.stream_edits.proofs.Rising.{fallen, risen-more, risen_all}
use Rattle.stream_edits.proofs.snapshots.ids.rise.Goals as goal

pub returns-then-number-last : goal.returns-then-number-last
returns-then-number-last c =
    let loop = c.loop-number in (
      λ (is : IsTrue false). absurd (false≢true is),
      λ are.
          absurd (fallen c.args.numbers.now loop.number-index loop.last (slice_index_or c.args.numbers.now loop.number-index 0) c.args.ids_given
          c.requires loop.invariant (omega arith) refl (omega arith) are),
    )

pub loop-number-preserved : goal.loop-number-preserved
loop-number-preserved c =
    let loop = c.loop-number in
    risen-more c.args.numbers.now loop.number-index loop.last (slice_index_or c.args.numbers.now loop.number-index 0) loop.invariant
    (omega arith) refl (omega arith)

pub returns : goal.returns
returns c =
    let loop = c.loop-number in
    risen_all c.args.numbers.now loop.number-index loop.last c.args.ids_given loop.invariant (omega arith)
