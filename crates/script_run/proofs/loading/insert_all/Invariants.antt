use Rattle.std.proofs.Common.{ℕ, List, length}
use Rattle.std.specs.Vec.Iter.{into_iter_items}
use Rattle.stand_in_session.specs.Machines.{Machine}
use Rattle.script_run.specs.Running.{InsertsAll}
use Rattle.script_run.proofs.loading.insert_all.Given as goal

abbrev pub invariant-loop-unit : goal.invariant-loop-unit
invariant-loop-unit l = (lines : List ℕ) (new : Machine)
    → InsertsAll (length l.fn.units.items) l.runner (into_iter_items l.unit-iterator) lines new
    → InsertsAll (length l.fn.units.items) l.fn.runner l.fn.units.items lines new
