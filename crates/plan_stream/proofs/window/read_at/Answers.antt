use Rattle.std.proofs.Common.{arith}
use Rattle.plan_stream.proofs.Ranges.{read-err, read-ok}
use Rattle.plan_stream.proofs.window.read_at.Goals as goal

pub returns-clause-ok : goal.returns-clause-ok
returns-clause-ok g c =
    read-ok _ _ c.args.buffer.now c.read_some.new.buffer c.args.start c.args.end _ c.requires.ordered (omega (arith, c.requires.room)) c.read_some.result
    c.read_some.ensures.within c.read_some.ensures.some

pub returns-clause-err : goal.returns-clause-err
returns-clause-err g c =
    read-err _ _ c.args.buffer.now c.read_some.new.buffer c.args.start c.args.end _ c.requires.ordered (omega (arith, c.requires.room)) c.read_some.result
    c.read_some.ensures.err
