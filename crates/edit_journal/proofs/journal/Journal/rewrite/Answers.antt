use Rattle.std.proofs.Common.{arith}
use Rattle.sqlite_trees.specs.View.{IsClean}
use Rattle.edit_journal.proofs.ViewLemmas.{quiet_same}
use Rattle.edit_journal.proofs.CommitLemmas.{lasts_again, survives_before, survives_after}
use Rattle.edit_journal.proofs.FaultLemmas.{fails_rolled}
use Rattle.edit_journal.proofs.journal.Journal.rewrite.Goals as goal

pub returns-in-Err-clause-fails : goal.returns-in-Err-clause-fails
returns-in-Err-clause-fails g c clean =
    let old = c.args.self.now in
    let mid = c.replace_records.new.store in
    let new = c.rollback.new.self in
    let early : IsClean (g.S.Store.view mid) = omega (arith, c.rollback.ensures.quiet.clean, clean) in
    fails_rolled g.S.Store old.store mid new _ _ _ c.rollback.ensures.quiet.counts c.rollback.ensures.blame (λ h. h) (c.in-Err.ensures.fails early)

pub returns-in-Ok-clause-replaced : goal.returns-in-Ok-clause-replaced
returns-in-Ok-clause-replaced g c clean lines stands =
    c.in-Ok.ensures.replaces clean lines (omega arith) stands.shows

pub returns-in-Ok-clause-survives : goal.returns-in-Ok-clause-survives
returns-in-Ok-clause-survives g c =
    let old = c.args.self.now in
    survives_before g.S.Store _ _ old.store old.store c.replace_records.new.store (quiet_same g.S.Store old.store) c.replace_records.ensures.survives
    (λ _ db replaces lines stands. replaces lines (omega arith) stands.shows)

pub returns-in-Err-clause-stays : goal.returns-in-Err-clause-stays
returns-in-Err-clause-stays g c clean lines stands is_open =
    let old = c.args.self.now in
    let mid = c.replace_records.new.store in
    let new = c.rollback.new.self in
    let early : IsClean (g.S.Store.view mid) = omega (arith, c.rollback.ensures.quiet.clean, clean) in
    lasts_again g.S.Store (g.S.Store.view old.store) (g.S.Store.view mid) new old.rows lines clean (c.in-Err.ensures.keeps early) c.rollback.ensures.undone is_open
    (λ db. g.met.S.Store.settled new db) stands

pub returns-in-Err-clause-survives : goal.returns-in-Err-clause-survives
returns-in-Err-clause-survives g c =
    let old = c.args.self.now in
    let mid = c.replace_records.new.store in
    let new = c.rollback.new.self in
    survives_after g.S.Store _ old.store mid new
    (survives_before g.S.Store _ _ old.store old.store mid (quiet_same g.S.Store old.store) c.replace_records.ensures.survives
    (λ _ db replaces lines stands. replaces lines (omega arith) stands.shows))
    c.rollback.ensures.quiet
