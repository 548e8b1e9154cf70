use Rattle.std.proofs.Common.{◌∙◌}
use Rattle.h264_types.specs.DefaultScalingLists.{default_list}
use Rattle.h264_types.specs.ScalingMatrix.{flat_list}
use Rattle.h264_types.proofs.FallBack.{flat_lists, sequence_with}
use Rattle.h264_types.proofs.param_sets.fall_back.sequence_lists.Goals as goal

pub returns-then-sps : goal.returns-then-sps
returns-then-sps c =
    let p = c.args.prediction in
    c.lists_in.ensures default_list flat_list c.default_lists-rule.ensures (flat_lists p) ∙ sequence_with c.args.sps.now p c.if-sps.true
