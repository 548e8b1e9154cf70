use Rattle.std.proofs.Common.{◌∙◌}
use Rattle.annexb.specs.EmulationPrevention.{payload_of}
use Rattle.slice_header.specs.Fronts.{slice_type_at}
use Rattle.slice_header.proofs.Fronts.{type_is}
use Rattle.slice_header.proofs.front.read_type.Goals as goal

pub returns : goal.returns
unfolding slice_type_at
returns c = c.ok.ensures.value ∙ (rw c.payload_front-len.ensures.written at c.type_of.ensures ∙ type_is (payload_of c.args.nal.now))
