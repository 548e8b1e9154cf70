use Rattle.std.proofs.Common.{◌≡◌, ◌+◌, ◌++◌, ℕ, subst, arith}
use Rattle.sqlite_trees.specs.View.{IsClean}
use Rattle.edit_journal.specs.Journals.{Lasts}
use Rattle.edit_journal.specs.Lines.{Keeps, lines_of}
use Rattle.edit_journal.proofs.ViewLemmas.{quiet_same}
use Rattle.edit_journal.proofs.CommitLemmas.{lasts_again, survives_quiet, survives_before, survives_after}
use Rattle.edit_journal.proofs.FaultLemmas.{fails_large, fails_rolled}
use Rattle.edit_journal.proofs.journal.Journal.append.Goals as goal

pub returns-in_default-clause-fails : goal.returns-in_default-clause-fails
returns-in_default-clause-fails g c clean =
    fails_large g.S.Store c.args.self.now.store c.args.self.now.store _ (λ fits. absurd (omega (arith, fits.counted, c.in_default.ensures)))

pub returns-in-Err-clause-fails : goal.returns-in-Err-clause-fails
returns-in-Err-clause-fails g c clean =
    let old = c.args.self.now in
    let mid = c.commit_record.new.store in
    let new = c.rollback.new.self in
    let early : IsClean (g.S.Store.view mid) = omega (arith, c.rollback.ensures.quiet.clean, clean) in
    let number : c.in-Some.entry ≡ old.entries + 1 = grind (arith, c.in-Some.ensures) in
    fails_rolled g.S.Store old.store mid new _ _ _ c.rollback.ensures.quiet.counts c.rollback.ensures.blame (λ too_large fits. too_large (rw number fits)) (c.in-Err.ensures.fails early)

pub returns-in_default-clause-survives : goal.returns-in_default-clause-survives
returns-in_default-clause-survives g c = survives_quiet g.S.Store _ c.args.self.now.store c.args.self.now.store (quiet_same g.S.Store c.args.self.now.store)

pub returns-in-Ok-clause-added : goal.returns-in-Ok-clause-added
returns-in-Ok-clause-added g c clean lines stands =
    let old = c.args.self.now in
    let steps = c.args.steps.now in
    let number : c.in-Some.entry ≡ old.entries + 1 = grind (arith, c.in-Some.ensures) in
    subst (λ (entry : ℕ). Lasts g.S.Store c.commit_record.new.store c.in-Ok.rows (lines ++ lines_of entry steps)) number (c.in-Ok.ensures.adds clean lines stands.shows)

pub returns-in-Ok-clause-survives : goal.returns-in-Ok-clause-survives
returns-in-Ok-clause-survives g c =
    let old = c.args.self.now in
    let steps = c.args.steps.now in
    let number : c.in-Some.entry ≡ old.entries + 1 = grind (arith, c.in-Some.ensures) in
    survives_before g.S.Store _ _ old.store old.store c.commit_record.new.store (quiet_same g.S.Store old.store) c.commit_record.ensures.survives
    (λ _ db adds lines stands. subst (λ (entry : ℕ). Keeps db (lines ++ lines_of entry steps)) number (adds lines stands.shows))

pub returns-in-Err-clause-stays : goal.returns-in-Err-clause-stays
returns-in-Err-clause-stays g c clean lines stands is_open =
    let old = c.args.self.now in
    let mid = c.commit_record.new.store in
    let new = c.rollback.new.self in
    let early : IsClean (g.S.Store.view mid) = omega (arith, c.rollback.ensures.quiet.clean, clean) in
    lasts_again g.S.Store (g.S.Store.view old.store) (g.S.Store.view mid) new old.rows lines clean (c.in-Err.ensures.keeps early) c.rollback.ensures.undone is_open
    (λ db. g.met.S.Store.settled new db) stands

pub returns-in-Err-clause-survives : goal.returns-in-Err-clause-survives
returns-in-Err-clause-survives g c =
    let old = c.args.self.now in
    let mid = c.commit_record.new.store in
    let new = c.rollback.new.self in
    let steps = c.args.steps.now in
    let number : c.in-Some.entry ≡ old.entries + 1 = grind (arith, c.in-Some.ensures) in
    survives_after g.S.Store _ old.store mid new
    (survives_before g.S.Store _ _ old.store old.store mid (quiet_same g.S.Store old.store) c.commit_record.ensures.survives
    (λ _ db adds lines stands. subst (λ (entry : ℕ). Keeps db (lines ++ lines_of entry steps)) number (adds lines stands.shows)))
    c.rollback.ensures.quiet
