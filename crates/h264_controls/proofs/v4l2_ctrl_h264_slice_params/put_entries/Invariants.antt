-- The first entries are after the form.
use Rattle.std.proofs.Common.{◌≡◌, ◌+◌, ◌*◌, ◌≤◌, ◌++◌, take, vec_len}
use Rattle.std.specs.Vec.{vec_capacity}
use Rattle.std.specs.List.{flat_map}
use Rattle.h264_controls.specs.SliceParamsForm.{reference_form}
use Rattle.h264_controls.proofs.v4l2_ctrl_h264_slice_params.put_entries.Given as goal

abbrev pub invariant-loop-entry : goal.invariant-loop-entry
invariant-loop-entry l = record {
  items : l.form.items ≡ l.fn.form.items ++ flat_map reference_form (take l.entry-index l.entries);
  len : vec_len l.form ≡ vec_len l.fn.form + 2 * l.entry-index;
  capacity : vec_capacity l.fn.form ≤ vec_capacity l.form;
}
