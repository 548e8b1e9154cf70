use Rattle.std.proofs.Common.{◌<◌, length, arith}
use Rattle.edit_script.proofs.GroupLines.{closes, more_edits, wrong_inside}
use Rattle.edit_script.proofs.groups.read_group.Goals as goal

pub returns-in-End : goal.returns-in-End
returns-in-End c =
    let i = c.loop-index.index in
    let below : i < length c.args.lines.now = omega arith in
    λ line begins. closes c.args.lines.now i _ below c.args.first line c.loop-index.edits begins c.loop-index.invariant
    (rw c.in-End.is at c.in_ok-edit.ensures)

pub returns-in-Wrong : goal.returns-in-Wrong
returns-in-Wrong c =
    let i = c.loop-index.index in
    let below : i < length c.args.lines.now = omega arith in
    let wrong = rw c.in-Wrong.is at c.in_ok-edit.ensures in
    λ line begins. wrong_inside c.args.lines.now i _ below (c.args.first, line) c.loop-index.edits.items begins
    c.loop-index.invariant wrong.0 wrong.1

pub loop-index-preserved : goal.loop-index-preserved
loop-index-preserved c =
    let i = c.loop-index.index in
    let below : i < length c.args.lines.now = omega arith in
    more_edits c.args.lines.now i _ below _ _ _ c.in_ok-push-in-Edit.ensures.items c.loop-index.invariant
    (rw c.in-Edit.is at c.in_ok-edit.ensures)
