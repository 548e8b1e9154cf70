use Rattle.std.proofs.Common.{◌<◌, length, arith, sym, ◌∙◌}
use Rattle.edit_script.proofs.NumberedLines.{all-read, more-read, more-skipped}
use Rattle.edit_script.proofs.lines.numbered_lines.Goals as goal
use Rattle.edit_script.proofs.lines.numbered_lines.Goals.{then-not-is_comment+in_ok-push, else-not-is_comment}

pub loop-index-preserved : goal.loop-index-preserved
loop-index-preserved c =
    let items = c.deref-line-items.result.now in
    let i = c.loop-index.index in
    let below : i < length items = omega arith in
    elim c.if-not-is_comment.branch [
      | then-not-is_comment+in_ok-push w ↦
          let kept = sym c.is_comment.ensures ∙ w.if-not-is_comment.true in
          rw (w.numbered-is, w.in_ok-push.ensures.items) (more-read items i _ below kept _ _ c.loop-index.invariant)
      | else-not-is_comment w ↦
          let skipped = sym c.is_comment.ensures ∙ w.if-not-is_comment.false in
          rw (w.numbered-is, more-skipped items i _ below skipped) c.loop-index.invariant
    ]

pub returns : goal.returns
returns c = all-read c.deref-line-items.result.now c.loop-index.index c.loop-index-test.false _ _ c.loop-index.invariant
