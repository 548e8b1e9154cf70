-- A group is refused for its size whatever the session is, and an accepted one has an id for each
-- edit.
use Rattle.std.proofs.Common.{refl, rules}
use Rattle.std.proofs.lemmas.List.Sorted.{IsPermutation-refl}
use Rattle.std.proofs.lemmas.Result.{err_from_is_err_and}
use Rattle.c_calls.proofs.Counted.{ids-of-group}
use Rattle.c_calls.proofs.grouping.answer_to_group.Goals as goal

pub returns-in_err-group-clause-answer : goal.returns-in_err-group-clause-answer
returns-in_err-group-clause-answer c =
    let p = err_from_is_err_and c.from_residual.result c.from_residual.ensures.1 in
    rw (p.1, p.2) ((c.in_err-group.ensures.err c.args.session.now.register, refl), IsPermutation-refl _, search rules)

pub returns-clause-ids : goal.returns-clause-ids
returns-clause-ids c =
    rw c.in_ok-group.ensures.ok.0 at (ids-of-group _ _ _ _ c.edit_group_read.ensures.answers)
