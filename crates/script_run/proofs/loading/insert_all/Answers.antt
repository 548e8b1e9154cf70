-- A unit that is inserted is the first of those that are left.
use Rattle.std.proofs.Common.{ℕ, List, length, sym, subst, inl}
use Rattle.script_run.specs.Running.{InsertsAll}
use Rattle.script_run.proofs.loading.insert_all.Goals as goal

pub loop-unit-preserved : goal.loop-unit-preserved
loop-unit-preserved c = λ lines new rest. c.loop-unit.invariant lines new
    (subst (λ (parts : List (List (List ℕ))). InsertsAll (length c.args.units.items) c.loop-unit.runner parts lines new)
    (sym c.in-Some.ensures.steps.0) (inl (c.in_default.field-0, c.insert_last.new.runner, c.in_default.ensures, rest)))
