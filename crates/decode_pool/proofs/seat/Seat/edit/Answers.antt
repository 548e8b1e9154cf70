-- An edit that is refused for its text is refused so by any session.
use Rattle.std.proofs.Common.{inl, refl}
use Rattle.std.proofs.lemmas.Result.{err_from_is_err_and}
use Rattle.stream_edits.specs.Edits.{no_units}
use Rattle.stream_session.specs.Machines.{empty}
use Rattle.decode_pool.proofs.seat.Seat.edit.Goals as goal

pub returns-in_err-read : goal.returns-in_err-read
returns-in_err-read g c =
    let p = err_from_is_err_and c.from_residual.result c.from_residual.ensures.1 in
    rw (p.1, p.2) (empty 1, empty 1, refl, inl (c.in_err-read.ensures.err no_units, refl), (refl, refl))
