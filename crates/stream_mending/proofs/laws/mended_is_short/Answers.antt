use Rattle.stream_mending.proofs.Sizes.{nine_for_four}
use Rattle.stream_mending.proofs.laws.mended_is_short.Goals as goal

pub returns : goal.returns
returns c = nine_for_four
