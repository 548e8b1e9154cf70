use Rattle.std.proofs.Common.{◌-◌, length, arith}
use Rattle.edit_history.proofs.Changed.{IsBack-more}
use Rattle.edit_history.proofs.groups.inverse_of.Goals as goal

pub loop-index-preserved : goal.loop-index-preserved
loop-index-preserved c =
    let changes = c.args.changes.now in
    let index = c.loop-index.index in
    let last = c.index-changes-changes.result in
    record {
      back =
          rw (c.in_ok-push.ensures.items)
          (IsBack-more changes index (length changes - 1 - index) last c.in_ok-inverse-2.field-0 c.loop-index.inverse.items
          (omega (arith, c.loop-index-test.true)) c.index-changes-changes.is c.in_ok-inverse-2.ensures c.loop-index.invariant.back);
      long = omega (arith, c.in_ok-push.ensures.len, c.loop-index.invariant.long, c.loop-index.inverse.ok, c.push.new.self.ok);
    }
