use Rattle.std.proofs.Common.{◌∙◌}
use Rattle.annexb.specs.EmulationPrevention.{payload_of}
use Rattle.slice_header.specs.Fronts.{front_at}
use Rattle.slice_header.proofs.Fronts.{front_is}
use Rattle.slice_header.proofs.front.read_front.Goals as goal

pub returns : goal.returns
unfolding front_at
returns c = rw c.bytes.ensures at c.front_of.ensures ∙ front_is (payload_of c.args.start.now)
