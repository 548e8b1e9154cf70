use Rattle.std.proofs.Common.{◌≡◌, ℕ, ◌<◌, length, take, drop, get_or}
use Rattle.h264_types.specs.ScaleSteps.{next_scale}
use Rattle.h264_types.specs.ScalingMatrix.{before_end, entry}
use Rattle.h264_types.proofs.param_sets.scaling_entries.entries.Given as goal

-- the last entry is that after the deltas so far, and the deltas after them are left
abbrev pub invariant-loop-entry : goal.invariant-loop-entry
invariant-loop-entry g l = record {
  size : length l.entry-items ≡ g.row.N;
  last : l.last ≡ next_scale (take l.entry-index (before_end 8 l.deltas));
  rest : before_end l.last l.rest ≡ drop l.entry-index (before_end 8 l.deltas);
  written : (k : ℕ) → k < l.entry-index → get_or l.entry-items k 0 ≡ entry l.deltas k;
}
