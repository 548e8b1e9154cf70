use Rattle.std.proofs.Common.{◌∙◌, ◌++◌, List, ℤ, ap, length, pos}
use Rattle.std.proofs.lemmas.List.{drop-replicate}
use Rattle.param_set_controls.proofs.v4l2_ctrl_h264_sps.cycle.Goals as goal

pub returns : goal.returns
returns c =
    let offsets = c.as_slice.result.now in
    let all = c.put_first.ensures ∙ ap (λ (l : List ℤ). offsets ++ l) (drop-replicate (length offsets) 255 (pos 0)) in
    rw c.as_slice.ensures.value at all
