use Rattle.std.proofs.Common.{ℕ, List, ◌++◌, length}
use Rattle.std.specs.Vec.Iter.{into_iter_items}
use Rattle.decode_pool.specs.declared.seat.Seat.{Seat}
use Rattle.script_run.specs.SharedRunning.{InsertsAll}
use Rattle.script_run.proofs.shared.loading.insert_all.Given as goal

abbrev pub invariant-loop-unit : goal.invariant-loop-unit
invariant-loop-unit g l = (lines : List ℕ) (new : Seat)
    → InsertsAll (length l.fn.units.items) l.seat (l.handful.items ++ into_iter_items l.unit-iterator) lines new
    → InsertsAll (length l.fn.units.items) l.fn.seat l.fn.units.items lines new
