use Rattle.std.proofs.Common.{◌∙◌}
use Rattle.stream_mending.proofs.Trims.{trimmed-take}
use Rattle.stream_mending.proofs.mending.Mending.take.Goals as goal

pub fault_of-requires : goal.fault_of-requires
fault_of-requires c = λ last at.
    trimmed-take c.args.bytes.now _ (c.split_at.ensures.front ∙ c.trimmed_len-len.ensures.value) last at
