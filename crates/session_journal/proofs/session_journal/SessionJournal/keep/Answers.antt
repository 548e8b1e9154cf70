use Rattle.std.proofs.Common.{◌≡◌, ◌<◌, ℕ, length, refl, sym, ap, ◌∙◌, arith, rules}
use Rattle.session_journal.specs.RecordRows.{given_by_step}
use Rattle.session_journal.proofs.LineLemmas.{given_then}
use Rattle.session_journal.proofs.KeepLemmas.{keep_more, leaves_more}
use Rattle.session_journal.proofs.session_journal.SessionJournal.keep.Goals as goal

pub returns-in_err-append-clause-leaves : goal.returns-in_err-append-clause-leaves
returns-in_err-append-clause-leaves g c step is_rows =
    leaves_more g.S.Store c.args.self.now c.append.new.self step c.args.rows.now is_rows (c.if-is_shut.ensures.last refl) (λ clean. c.if-is_shut.ensures.open clean refl) c.append.ensures.survives

pub returns-clause-kept : goal.returns-clause-kept
returns-clause-kept g c step is_rows is_after is_load steps stood =
    let count : c.in-Ok.count ≡ length c.args.rows.now = search rules in
    let some : 0 < c.in-Ok.count = omega (arith, c.if-count-eq0.false) in
    record {
      stands = record {
        given = is_after ∙ ap (λ (n : ℕ). given_by_step n step) stood.given ∙ sym (given_then 0 steps step);
        holds = λ _. keep_more g.S.Store c.args.self.now.journal c.append.new.self steps step c.args.rows.now c.args.self.now.given stood.given is_rows (omega (arith, count, some)) (λ clean. c.if-is_shut.ensures.open clean refl)
            c.append.ensures.survives.clean c.in_ok-append.ensures.entries c.in_ok-append.ensures.added (stood.holds (c.if-is_shut.ensures.last refl));
      };
      before = stood.given;
      rows = count ∙ ap length is_rows;
      some = some;
      load = is_load;
    }

pub returns-clause-leaves : goal.returns-clause-leaves
returns-clause-leaves g c step is_rows =
    leaves_more g.S.Store c.args.self.now c.append.new.self step c.args.rows.now is_rows (c.if-is_shut.ensures.last refl) (λ clean. c.if-is_shut.ensures.open clean refl) c.append.ensures.survives
