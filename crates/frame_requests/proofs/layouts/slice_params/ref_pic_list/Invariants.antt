use Rattle.frame_requests.specs.SliceParamsLayout.{reference_at, reference_layout}
use Rattle.std.specs.Prelude.{None}
use Rattle.frame_requests.proofs.Filled.{IsFilled}
use Rattle.frame_requests.proofs.layouts.slice_params.ref_pic_list.Given as goal

-- each place so far has its entry
abbrev pub invariant-loop-place : goal.invariant-loop-place
invariant-loop-place l = IsFilled (reference_layout None) (reference_at l.entries) 32 l.place l.list
