use Rattle.std.proofs.Common.{refl}
use Rattle.std.proofs.lemmas.Result.{err_from_is_err_and}
use Rattle.stream_session.proofs.session.Session.edit_group.Goals as goal

pub returns-in_err-group-clause-answers : goal.returns-in_err-group-clause-answers
returns-in_err-group-clause-answers g c =
    let p = err_from_is_err_and c.from_residual.result c.from_residual.ensures.1 in
    rw (p.1, p.2) (c.in_err-group.ensures.err c.args.self.now.register, refl)
