use Rattle.std.proofs.Common.{arith}
use Rattle.std.proofs.lemmas.Bool.Decides.{Decides-at}
use Rattle.param_set_controls.proofs.Same.{offsets_same}
use Rattle.param_set_controls.proofs.v4l2_ctrl_h264_sps.same_cycle.Goals as goal

pub returns-then-a-b-3 : goal.returns-then-a-b-3
returns-then-a-b-3 c =
    let offsets = Decides-at c.eq.result _ c.eq.ensures (offsets_same c.args.a.now.offset_for_ref_frame c.args.b.now.offset_for_ref_frame) in
    grind (arith, offsets.0, offsets.1)
