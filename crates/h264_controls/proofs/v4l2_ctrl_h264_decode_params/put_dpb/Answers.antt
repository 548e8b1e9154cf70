-- The entries have nineteen bytes each.
use Rattle.std.proofs.Common.{append_assoc}
use Rattle.param_set_controls.specs.Words.{padded}
use Rattle.h264_controls.specs.DecodeParamsForm.{dpb_form}
use Rattle.h264_controls.proofs.Padding.{length-dpb}
use Rattle.h264_controls.proofs.v4l2_ctrl_h264_decode_params.put_dpb.Goals as goal

pub returns-clause-items : goal.returns-clause-items
unfolding dpb_form padded
returns-clause-items c =
    rw (c.put_zeros.ensures.items, c.put_entries.ensures.items, c.as_slice-entries.ensures.value, length-dpb, append_assoc)
