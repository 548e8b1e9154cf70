use Rattle.std.proofs.Common.{refl}
use Rattle.session_journal.proofs.KeepLemmas.{keep_only, leaves_only}
use Rattle.session_journal.proofs.session_journal.SessionJournal.rewrite.Goals as goal

pub returns-in_err-rewrite-clause-leaves : goal.returns-in_err-rewrite-clause-leaves
returns-in_err-rewrite-clause-leaves g c steps are =
    leaves_only g.S.Store c.args.self.now c.rewrite.new.self steps c.args.rows.now c.args.given are (c.if-is_shut.ensures.last refl) (λ clean. c.if-is_shut.ensures.open clean refl) c.rewrite.ensures.survives

pub returns-clause-replaced : goal.returns-clause-replaced
returns-clause-replaced g c steps are before stood = record {
  given = are.ids;
  holds = λ _. keep_only g.S.Store c.args.self.now.journal c.rewrite.new.self before steps c.args.rows.now c.args.given are (λ clean. c.if-is_shut.ensures.open clean refl)
      c.rewrite.ensures.survives.clean c.in_ok-rewrite.ensures.entries c.in_ok-rewrite.ensures.replaced (stood.holds (c.if-is_shut.ensures.last refl));
}

pub returns-clause-leaves : goal.returns-clause-leaves
returns-clause-leaves g c steps are =
    leaves_only g.S.Store c.args.self.now c.rewrite.new.self steps c.args.rows.now c.args.given are (c.if-is_shut.ensures.last refl) (λ clean. c.if-is_shut.ensures.open clean refl) c.rewrite.ensures.survives
