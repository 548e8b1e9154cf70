use Rattle.std.proofs.Common.{refl}
use Rattle.session_journal.proofs.LeaveLemmas.{shorten_all, shorten_none, shorten_some}
use Rattle.session_journal.proofs.session_journal.SessionJournal.leave.Goals as goal

pub returns-then-rows-left-clause-some : goal.returns-then-rows-left-clause-some
returns-then-rows-left-clause-some g c some front step short count is holds still =
    shorten_all g.S.Store c.args.self.now.journal c.args.rows c.args.left front step short c.if-rows-left.true count is (holds still)

pub returns-in-Ok-clause-none : goal.returns-in-Ok-clause-none
returns-in-Ok-clause-none g c none front step some count holds still =
    shorten_none g.S.Store c.args.self.now.journal c.shorten.new.self c.args.rows c.args.left front step (λ clean. c.if-is_shut.ensures.open clean refl) c.shorten.ensures.survives.clean
    c.in-Ok.ensures.entries c.in-Ok.ensures.shortened none some count (holds still)

pub returns-in-Ok-clause-some : goal.returns-in-Ok-clause-some
returns-in-Ok-clause-some g c some front step short count is holds still =
    shorten_some g.S.Store c.args.self.now.journal c.shorten.new.self c.args.rows c.args.left front step short (λ clean. c.if-is_shut.ensures.open clean refl) c.shorten.ensures.survives.clean
    c.in-Ok.ensures.entries c.in-Ok.ensures.shortened some count is (holds still)
