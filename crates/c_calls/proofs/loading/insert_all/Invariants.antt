use Rattle.std.proofs.Common.{ℕ}
use Rattle.std.specs.Vec.Iter.{into_iter_items}
use Rattle.c_calls.specs.Machines.{Machine}
use Rattle.c_calls.specs.declared.loading.LoadReceipt.{LoadReceipt}
use Rattle.c_calls.specs.Loading.{InsertsAll}
use Rattle.c_calls.proofs.loading.insert_all.Given as goal

-- what is left leads to the end as all of them do
abbrev pub invariant-loop-unit : goal.invariant-loop-unit
invariant-loop-unit l = (status : ℕ) (tells : LoadReceipt) (new : Machine)
    → InsertsAll l.session (into_iter_items l.unit-iterator) l.loaded status tells new
    → InsertsAll l.fn.session l.fn.units.items l.fn.loaded status tells new
