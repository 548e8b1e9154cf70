use Rattle.frame_requests.specs.DpbLayout.{dpb_entry_at, no_entry}
use Rattle.frame_requests.proofs.Filled.{IsFilled}
use Rattle.frame_requests.proofs.layouts.decode_params.dpb.Given as goal

-- each place so far has its entry
abbrev pub invariant-loop-place : goal.invariant-loop-place
invariant-loop-place l = IsFilled no_entry (dpb_entry_at l.entries l.units) 16 l.place l.dpb
