use Rattle.std.proofs.Common.{◌≡◌, ℕ, ◌<◌, length, get_or}
use Rattle.h264_types.proofs.param_sets.scaling_matrix.in_raster_order.Given as goal

-- each place so far has its entry
abbrev pub invariant-loop-place : goal.invariant-loop-place
invariant-loop-place g l = record {
  size : length l.block ≡ g.row.N;
  written : (k : ℕ) → k < l.place → get_or l.block k 0 ≡ get_or l.list (get_or l.entry_numbers k 0) 0;
}
