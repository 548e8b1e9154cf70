use Rattle.stream_mending.proofs.Drawn.{in_order}
use Rattle.stream_mending.proofs.laws.kept_in_order.Goals as goal

pub returns : goal.returns
returns c = in_order
