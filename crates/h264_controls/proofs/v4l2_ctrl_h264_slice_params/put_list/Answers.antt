-- The entries have two bytes each.
use Rattle.std.proofs.Common.{append_assoc}
use Rattle.param_set_controls.specs.Words.{padded}
use Rattle.h264_controls.specs.SliceParamsForm.{list_form}
use Rattle.h264_controls.proofs.Padding.{length-references}
use Rattle.h264_controls.proofs.v4l2_ctrl_h264_slice_params.put_list.Goals as goal

pub returns-clause-items : goal.returns-clause-items
unfolding list_form padded
returns-clause-items c =
    rw (c.put_zeros.ensures.items, c.put_entries.ensures.items, c.entries-entries.ensures.value, length-references, append_assoc)
