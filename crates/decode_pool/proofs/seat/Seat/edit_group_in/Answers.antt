use Rattle.std.proofs.Common.{refl}
use Rattle.std.proofs.lemmas.Result.{err_from_is_err_and}
use Rattle.decode_pool.proofs.seat.Seat.edit_group_in.Goals as goal

pub returns-in_err-group-clause-session : goal.returns-in_err-group-clause-session
returns-in_err-group-clause-session c =
    let p = err_from_is_err_and c.from_residual.result c.from_residual.ensures.1 in
    rw (p.1, p.2) (c.in_err-group.ensures.err c.args.session.now.register, refl)
