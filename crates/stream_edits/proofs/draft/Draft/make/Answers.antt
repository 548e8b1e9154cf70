use Rattle.std.proofs.lemmas.Result.{err_from_is_err_and}
use Rattle.stream_edits.specs.Drafts.{register_of}
use Rattle.stream_edits.proofs.Drafted.{IsDraft-made}
use Rattle.stream_edits.proofs.Edited.{TakesMemory-for}
use Rattle.stream_edits.proofs.draft.Draft.make.Goals as goal

pub change_of-requires-clause-different : goal.change_of-requires-clause-different
change_of-requires-clause-different c = rw (c.deref-2.ensures.value) c.requires.different

pub returns-in_err-make_accepted-clause-err : goal.returns-in_err-make_accepted-clause-err
returns-in_err-make_accepted-clause-err c =
    let p = err_from_is_err_and c.from_residual-in_err-make_accepted.result c.from_residual-in_err-make_accepted.ensures.1 in
    let for = rw (c.deref.ensures.value) at c.in_ok-accepted.ensures.ok in
    rw (p.1, p.2) (TakesMemory-for (register_of c.args.self.now) c.args.read.now c.in_ok-accepted.accepted for)

pub returns-clause-ok : goal.returns-clause-ok
returns-clause-ok c old edits is =
    let for = rw (c.deref.ensures.value) at c.in_ok-accepted.ensures.ok in
    IsDraft-made old edits c.args.self.now c.make_accepted.new.self c.args.read.now c.in_ok-accepted.accepted is for c.in_ok-make_accepted.ensures
