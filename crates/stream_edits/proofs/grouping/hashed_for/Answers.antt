-- What one edit more hashes is added.
use Rattle.std.proofs.Common.{take, arith}
use Rattle.std.proofs.lemmas.List.{get_or_read, take_more}
use Rattle.stream_edits.specs.declared.edits.Edit.TheVariants.{Delete}
use Rattle.stream_edits.proofs.Hashed.{hashed_few, hashed_more}
use Rattle.stream_edits.proofs.grouping.hashed_for.Goals as goal

pub loop-edit-preserved : goal.loop-edit-preserved
loop-edit-preserved c =
    let loop = c.loop-edit in
    let item_is = get_or_read c.args.read.now loop.edit-index c.edit-item.result c.loop-edit-test.true c.edit-item.is (Delete 0) in
    let few = hashed_few _ _ c.hashed-hashed.ensures in
    record {
      counted =
          rw (take_more c.args.read.now loop.edit-index (Delete 0) c.loop-edit-test.true, ← item_is)
          (hashed_more (take loop.edit-index c.args.read.now) _ _ _ loop.invariant.counted c.hashed-hashed.ensures);
      few = omega (arith, few, loop.invariant.few);
    }
