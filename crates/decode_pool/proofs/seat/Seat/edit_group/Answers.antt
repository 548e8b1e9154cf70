-- A group that is refused before a session is asked is refused so by any session.
use Rattle.std.proofs.Common.{refl, rules}
use Rattle.std.proofs.lemmas.Result.{err_from_is_err_and}
use Rattle.stream_edits.specs.Edits.{no_units}
use Rattle.stream_session.specs.Machines.{empty}
use Rattle.decode_pool.proofs.seat.Seat.edit_group.Goals as goal

pub returns-in_err-group : goal.returns-in_err-group
returns-in_err-group g c =
    let p = err_from_is_err_and c.from_residual.result c.from_residual.ensures.1 in
    rw (p.1, p.2) (record {
      edits = (empty 1, empty 1, refl, (c.in_err-group.ensures.err no_units, refl), (refl, refl));
      few = search rules;
    })
