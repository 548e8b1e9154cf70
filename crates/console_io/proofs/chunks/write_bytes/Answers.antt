use Rattle.std.proofs.Common.{arith, take-add, length-drop}
use Rattle.std.proofs.KnownBytes.{Appends-trans}
use Rattle.console_io.proofs.chunks.write_bytes.Goals as goal

pub writes-preserved : goal.writes-preserved
writes-preserved g c =
    let before = c.writes.invariant in
    let all = c.args.bytes.now in
    let written = c.writes.written in
    let rest = c.split_at.ensures.back in
    let some = rw rest at c.in_ok-more.ensures.some in
    let more = rw rest at c.in_ok-more.ensures.ok in
    rw (take-add written c.in_ok-more.more all) record {
      within = omega (arith, before.within, some, length-drop written all);
      appended = Appends-trans _ _ _ _ _ before.appended more;
    }
