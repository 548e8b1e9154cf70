-- A group for which there is no memory is refused so by any session.
use Rattle.std.proofs.Common.{refl}
use Rattle.std.proofs.lemmas.Result.{err_from_is_err_and}
use Rattle.stream_session.specs.Machines.{empty}
use Rattle.decode_pool.proofs.seat.Seat.edit_group_read.Goals as goal

pub returns-in_err-note : goal.returns-in_err-note
returns-in_err-note g c =
    let p = err_from_is_err_and c.from_residual.result c.from_residual.ensures.1 in
    rw (p.1, p.2) (empty 1, empty 1, refl, (c.edits.ensures.sized, refl), (refl, refl))
