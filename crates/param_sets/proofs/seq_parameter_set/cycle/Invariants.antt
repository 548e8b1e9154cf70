use Rattle.std.proofs.Common.{◌≡◌, ◌-◌, [], replicate, length}
use Rattle.expgolomb.specs.TableReading.{rows_at}
use Rattle.param_sets.specs.SpsSyntax.{take, with_offsets, IsCycleOf, offset_row}
use Rattle.h264_types.specs.declared.param_sets.sps.Sps.{Sps}
use Rattle.param_sets.proofs.seq_parameter_set.cycle.Given as goal

-- the offsets so far, then the rest of the rows, are what all rows give
abbrev pub invariant-loop-i : goal.invariant-loop-i
invariant-loop-i l = record {
  so_far : length l.offsets ≡ l._i;
  whole : (s : Sps) → IsCycleOf s l.fn.length → rows_at take (replicate 255 offset_row) (with_offsets s []) l.initial.bits ≡ rows_at take (replicate (255 - l._i) offset_row) (with_offsets s l.offsets) l.bits;
}
