use Rattle.stream_mending.proofs.Written.{stream_of_some}
use Rattle.stream_mending.proofs.laws.mended_is_a_stream.Goals as goal

pub returns : goal.returns
returns c = stream_of_some
