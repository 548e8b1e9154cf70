use Rattle.std.proofs.Common.{◌≡◌, ◌+◌, ◌-◌, ◌++◌, subst, arith}
use Rattle.edit_journal.specs.Journals.{Lasts}
use Rattle.edit_journal.specs.Lines.{Keeps, lines_of}
use Rattle.edit_journal.proofs.RowLemmas.{take_record}
use Rattle.edit_journal.proofs.ViewLemmas.{quiet_same}
use Rattle.edit_journal.proofs.CommitLemmas.{survives_before, survives_after}
use Rattle.edit_journal.proofs.journal.Journal.shorten.Goals as goal

pub returns-in-Ok-clause-shortened : goal.returns-in-Ok-clause-shortened
returns-in-Ok-clause-shortened g c clean lines entry steps stands long =
    let old = c.args.self.now in
    let left : c.in-Some.left + (c.args.count - c.args.kept) ≡ old.rows = grind (arith, c.in-Some.ensures, c.saturating_sub.ensures) in
    subst (Lasts g.S.Store c.replace_records.new.store c.in-Ok.rows) (take_record lines entry steps old.rows c.in-Some.left c.args.count c.args.kept stands.shows.count long left)
    (c.in-Ok.ensures.replaces clean (lines ++ lines_of entry steps) (omega (arith, left)) stands.shows)

pub returns-in-Ok-clause-survives : goal.returns-in-Ok-clause-survives
returns-in-Ok-clause-survives g c =
    let old = c.args.self.now in
    let left : c.in-Some.left + (c.args.count - c.args.kept) ≡ old.rows = grind (arith, c.in-Some.ensures, c.saturating_sub.ensures) in
    survives_before g.S.Store _ _ old.store old.store c.replace_records.new.store (quiet_same g.S.Store old.store) c.replace_records.ensures.survives
    (λ _ db replaces lines entry steps stands long. subst (Keeps db) (take_record lines entry steps old.rows c.in-Some.left c.args.count c.args.kept stands.shows.count long left)
    (replaces (lines ++ lines_of entry steps) (omega (arith, left)) stands.shows))

pub returns-in-Err-clause-survives : goal.returns-in-Err-clause-survives
returns-in-Err-clause-survives g c =
    let old = c.args.self.now in
    let mid = c.replace_records.new.store in
    let left : c.in-Some.left + (c.args.count - c.args.kept) ≡ old.rows = grind (arith, c.in-Some.ensures, c.saturating_sub.ensures) in
    survives_after g.S.Store _ old.store mid c.rollback.new.self
    (survives_before g.S.Store _ _ old.store old.store mid (quiet_same g.S.Store old.store) c.replace_records.ensures.survives
    (λ _ db replaces lines entry steps stands long. subst (Keeps db) (take_record lines entry steps old.rows c.in-Some.left c.args.count c.args.kept stands.shows.count long left)
    (replaces (lines ++ lines_of entry steps) (omega (arith, left)) stands.shows)))
    c.rollback.ensures.quiet
