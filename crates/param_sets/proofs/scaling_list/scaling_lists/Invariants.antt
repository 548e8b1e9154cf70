use Rattle.std.proofs.Common.{◌≡◌, ◌-◌, [], length}
use Rattle.expgolomb.specs.TableReading.{rows_at}
use Rattle.param_sets.specs.Scaling.{take_list, list_rows}
use Rattle.param_sets.proofs.scaling_list.scaling_lists.Given as goal

-- the lists so far, then the rest of the rows, are what all rows give
abbrev pub invariant-loop-j : goal.invariant-loop-j
invariant-loop-j l = record {
  count : length l.lists ≡ l.j;
  whole : rows_at take_list (list_rows 0 l.fn.count) [] l.initial.bits ≡ rows_at take_list (list_rows l.j (l.fn.count - l.j)) l.lists l.bits;
}
