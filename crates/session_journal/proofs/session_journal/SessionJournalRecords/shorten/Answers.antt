use Rattle.session_journal.proofs.LeaveLemmas.{shortened}
use Rattle.session_journal.proofs.session_journal.SessionJournalRecords.shorten.Goals as goal

pub returns : goal.returns
returns g c steps step end =
    let rows = c.rows_left-left.ensures in
    let ids = c.given_left-given.ensures in
    let both = shortened g.S.Store c.args.self.now c.leave.new.self c.args.made c.rows_left-left.result c.given_left-given.result steps step rows.none rows.group rows.load c.leave.ensures.none
    c.leave.ensures.some ids.none ids.group ids.load end in
    record { given = both.0; holds = both.1 }
