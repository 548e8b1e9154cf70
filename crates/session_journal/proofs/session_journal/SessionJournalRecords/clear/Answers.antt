use Rattle.std.proofs.Common.{[], refl}
use Rattle.session_journal.proofs.session_journal.SessionJournalRecords.clear.Goals as goal

pub returns-clause-cleared : goal.returns-clause-cleared
returns-clause-cleared g c = c.rewrite.ensures.replaced [] (record { lines = refl; count = refl; ids = refl })

pub returns-clause-leaves : goal.returns-clause-leaves
returns-clause-leaves g c = c.rewrite.ensures.leaves [] (record { lines = refl; count = refl; ids = refl })
