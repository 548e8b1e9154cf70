use Rattle.std.proofs.Common.{◌≡◌, ◌-◌, List, [], ◌∷◌, ◌++◌, replicate, length, Some}
use Rattle.expgolomb.specs.TableReading.{rows_at}
use Rattle.h264_types.specs.ScaleSteps.{Deltas, next_scale}
use Rattle.param_sets.specs.Scaling.{take_list, delta_row}
use Rattle.param_sets.proofs.scaling_list.deltas.Given as goal

-- the deltas so far, then the rest of the rows, are what all rows give
abbrev pub invariant-loop-i : goal.invariant-loop-i
invariant-loop-i l = record {
  scale : next_scale l.list ≡ l.next;
  whole : (lists : List Deltas) → rows_at take_list (replicate l.fn.size (delta_row (length lists))) (lists ++ Some [] ∷ []) l.initial.bits ≡ rows_at take_list (replicate (l.fn.size - l._i) (delta_row (length lists))) (lists ++ Some l.list ∷ []) l.bits;
}
