use Rattle.stream_edits.proofs.GivenIds.{HasIds-journal}
use Rattle.stream_edits.proofs.laws.ids_differ.Goals as goal

pub returns : goal.returns
returns c = HasIds-journal
