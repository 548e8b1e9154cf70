use Rattle.std.proofs.Common.{rules}
use Rattle.std.proofs.lemmas.Bool.Decides.{Decides-at}
use Rattle.h264_types.specs.SameSets.{same_sps}
use Rattle.h264_types.proofs.SameSets.{sps_same}
use Rattle.h264_types.proofs.param_sets.sps.Sps.is_same.Goals as goal

pub returns-then-same_cycle-clause-by_field : goal.returns-then-same_cycle-clause-by_field
unfolding same_sps
returns-then-same_cycle-clause-by_field c = search rules

pub returns-then-same_cycle-clause-same : goal.returns-then-same_cycle-clause-same
returns-then-same_cycle-clause-same c = Decides-at _ _ (returns-then-same_cycle-clause-by_field c) (sps_same _ _)
