use Rattle.unit_outcomes.proofs.Intra.{no_entries_no_doubt}
use Rattle.unit_outcomes.proofs.doubts.walk.intra_is_sound.Goals as goal

pub returns : goal.returns
returns c = no_entries_no_doubt
