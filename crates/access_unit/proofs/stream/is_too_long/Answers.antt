-- The lengths so far and what is left are the greatest length.
use Rattle.std.proofs.Common.{◌<◌, ◌+◌, [], length, ap, ◌∙◌, arith}
use Rattle.std.proofs.lemmas.Grind.{common_steps}
use Rattle.std.proofs.lemmas.List.{get_or_read}
use Rattle.annexb.specs.ByteStream.{joined}
use Rattle.access_unit.specs.Refusals.{most_bytes}
use Rattle.access_unit.proofs.Lengths.{length-joined-more, length-joined-part}
use Rattle.access_unit.proofs.stream.is_too_long.Goals as goal

pub returns-in-None : goal.returns-in-None
returns-in-None c =
    let item_is = get_or_read c.args.nals.now c.loop-nal.nal-index c.nal-item.result c.loop-nal-test.true c.nal-item.is [] in
    let next = ap length (c.bytes.ensures.value ∙ (c.nal.ensures ∙ item_is)) in
    let long : most_bytes < length (joined c.args.nals.now) = omega (
      arith,
      next,
      length-joined-more c.args.nals.now c.loop-nal.nal-index c.loop-nal-test.true,
      length-joined-part c.args.nals.now (c.loop-nal.nal-index + 1),
      c.in-None.ensures,
    ) in
    grind (arith, common_steps, long)

pub loop-nal-preserved : goal.loop-nal-preserved
loop-nal-preserved c =
    let item_is = get_or_read c.args.nals.now c.loop-nal.nal-index c.nal-item.result c.loop-nal-test.true c.nal-item.is [] in
    let next = ap length (c.bytes.ensures.value ∙ (c.nal.ensures ∙ item_is)) in
    omega (arith, next, length-joined-more c.args.nals.now c.loop-nal.nal-index c.loop-nal-test.true, c.in-Some.ensures)
