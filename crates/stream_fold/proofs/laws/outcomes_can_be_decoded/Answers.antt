use Rattle.stream_fold.proofs.Decodable.{AllCanDecode-outcomes_of}
use Rattle.stream_fold.proofs.laws.outcomes_can_be_decoded.Goals as goal

pub returns : goal.returns
returns c = AllCanDecode-outcomes_of
