-- A unit that is inserted, or refused, is the first of those that are left.
use Rattle.std.proofs.Common.{◌∙◌, ℕ, List, sym, subst, inl, inr, refl}
use Rattle.c_calls.specs.Loading.{InsertsAll}
use Rattle.c_calls.proofs.loading.insert_all.Goals as goal

pub returns-in-Err : goal.returns-in-Err
returns-in-Err c = c.loop-unit.invariant _ _ _
    (subst (λ (parts : List (List (List ℕ))). InsertsAll c.loop-unit.session parts c.loop-unit.loaded c.from.result c.loop-unit.loaded c.insert_last.new.session)
    (sym c.in-Some.ensures.steps.0) (inr (c.in-Err.refused, c.in-Err.ensures, c.from.ensures ∙ c.number.ensures, refl)))

pub loop-unit-preserved : goal.loop-unit-preserved
loop-unit-preserved c = λ status tells new rest. c.loop-unit.invariant status tells new
    (subst (λ (parts : List (List (List ℕ))). InsertsAll c.loop-unit.session parts c.loop-unit.loaded status tells new)
    (sym c.in-Some.ensures.steps.0) (inl (c.in-Ok.receipt, c.insert_last.new.session, c.in-Ok.ensures, rw c.with_one.ensures at rest)))
