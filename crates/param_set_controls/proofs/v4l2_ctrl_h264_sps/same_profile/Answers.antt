use Rattle.std.proofs.Common.{arith}
use Rattle.std.proofs.lemmas.Bool.Decides.{Decides-at}
use Rattle.param_set_controls.proofs.Same.{set_flags_same}
use Rattle.param_set_controls.proofs.v4l2_ctrl_h264_sps.same_profile.Goals as goal

pub returns-then-a-b-3 : goal.returns-then-a-b-3
returns-then-a-b-3 c =
    let flags = Decides-at c.eq.result _ c.eq.ensures (set_flags_same c.args.a.now.constraint_set_flags c.args.b.now.constraint_set_flags) in
    grind (arith, flags.0, flags.1)
