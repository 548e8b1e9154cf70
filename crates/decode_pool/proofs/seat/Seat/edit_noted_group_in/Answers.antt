use Rattle.std.proofs.Common.{◌≡◌, length, arith}
use Rattle.decode_pool.proofs.Noted.{length-ids}
use Rattle.decode_pool.proofs.seat.Seat.edit_noted_group_in.Goals as goal

pub with_ids-group-requires : goal.with_ids-group-requires
with_ids-group-requires c =
    let long : length c.in_ok-receipt.receipt.ids.items ≡ length c.args.group =
    length-ids c.args.session.now.register c.args.group c.in_ok-receipt.receipt.ids.items c.edit_group_read.new.self.register
    c.in_ok-receipt.ensures.answers.made in
    rw (c.deref.ensures.value, c.requires.noted) (omega (arith, long))
