use Rattle.std.proofs.Common.{◌<◌, ◌≤◌, ◌+◌, length, arith}
use Rattle.failure_reasons.proofs.Lines.{lines_more, lines_taken}
use Rattle.failure_reasons.proofs.scripts.name_lines.Goals as goal

pub returns-then-not-said : goal.returns-then-not-said
returns-then-not-said g c =
    let names = c.args.names.now in
    let i = c.loop-name.name-index in
    let below : i < length names = omega arith in
    let within : i + 1 ≤ length names = omega (arith, below) in
    let files = g.D.Again.bytes c.args.directory.now in
    let more = lines_more files names i _ below _ _ _ c.loop-name.invariant c.in_ok-said.ensures
    (rw c.as_slice.ensures.value at c.in_ok-extend_from_slice.ensures.items) in
    (i + 1, within, lines_taken files names (i + 1) _ more)

pub loop-name-preserved : goal.loop-name-preserved
loop-name-preserved g c =
    let names = c.args.names.now in
    let i = c.loop-name.name-index in
    let below : i < length names = omega arith in
    lines_more (g.D.Again.bytes c.args.directory.now) names i _ below _ _ _ c.loop-name.invariant c.in_ok-said.ensures
    (rw c.as_slice.ensures.value at c.in_ok-extend_from_slice.ensures.items)
