use Rattle.std.proofs.Common.{◌≡◌, ◌-◌, [], replicate, length}
use Rattle.std.proofs.Common.{take as front}
use Rattle.expgolomb.specs.TableReading.{rows_at}
use Rattle.param_sets.specs.SpsSyntax.{take, flag_row}
use Rattle.h264_types.specs.declared.param_sets.sps.Sps.{Sps}
use Rattle.param_sets.proofs.seq_parameter_set.constraint_set_flags.Given as goal

-- the flags so far, then the rest of the rows, are what all rows give
abbrev pub invariant-loop-i : goal.invariant-loop-i
invariant-loop-i l =
    (length l.flags ≡ 6) × ((s : Sps) → rows_at take (replicate 6 flag_row) (record s { constraint_set_flags = [] }) l.initial.bits ≡ rows_at take (replicate (6 - l.i) flag_row) (record s { constraint_set_flags = front l.i l.flags }) l.bits)
