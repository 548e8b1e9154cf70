use Rattle.std.proofs.Common.{◌∙◌, List, ℕ, Err, ap, arith, length, refl, sym, subst, inl, inr}
use Rattle.serve_requests.specs.declared.failure.Failure.{Failure}
use Rattle.serve_calls.specs.declared.loading.Inserted.{Inserted}
use Rattle.serve_calls.specs.Loading.{InsertsAll}
use Rattle.serve_calls.specs.Recording.{AreMadeBefore}
use Rattle.serve_calls.proofs.Recorded.{made-before}
use Rattle.serve_calls.proofs.server.Server.insert_all.Goals as goal

pub returns-in-Err-clause-inserts : goal.returns-in-Err-clause-inserts
returns-in-Err-clause-inserts g c = c.loop-unit.invariant.0 _ _ _
    (subst (λ (parts : List (List (List ℕ))). InsertsAll g.B.LendsSession.is_session c.loop-unit.self c.loop-unit.step parts c.loop-unit.inserted
    (Err c.uninserted.result) c.insert_last.new.self c.insert_last.new.step)
    (sym c.in-Some.ensures.steps.0) (inr (c.in-Err.fault, c.in-Err.ensures.inserts, ap Err c.uninserted.ensures)))

pub returns-in-Err-clause-loading : goal.returns-in-Err-clause-loading
returns-in-Err-clause-loading g c = (
  c.loop-unit.inserted.units,
  subst (λ (failure : Failure). AreMadeBefore failure c.loop-unit.inserted.units) (sym c.uninserted.ensures)
      (made-before c.in-Err.fault c.loop-unit.inserted.units),
  λ steps edits is. c.in-Err.ensures.loading steps edits c.loop-unit.inserted.units (c.loop-unit.invariant.3 steps edits is),
)

pub returns-clause-loading : goal.returns-clause-loading
returns-clause-loading g c = (c.loop-unit.inserted.units, refl, λ steps edits is. c.loop-unit.invariant.3 steps edits is)

pub loop-unit-preserved : goal.loop-unit-preserved
loop-unit-preserved g c = (
  λ result new step rest. c.loop-unit.invariant.0 result new step
      (subst (λ (parts : List (List (List ℕ))). InsertsAll g.B.LendsSession.is_session c.loop-unit.self c.loop-unit.step parts c.loop-unit.inserted
      result new step) (sym c.in-Some.ensures.steps.0)
      (inl (c.in-Ok.receipt, c.insert_last.new.self, c.insert_last.new.step, c.in-Ok.ensures.inserts, rw c.with_unit-inserted.ensures at rest))),
  c.in-Ok.ensures.history ∙ c.loop-unit.invariant.1,
  omega (arith, c.in-Ok.ensures.more, c.in-Ok.ensures.capacity, c.loop-unit.invariant.2, ap length c.in-Some.ensures.steps.0),
  λ steps edits is. subst (λ (inserted : Inserted). g.B.Backend.loads c.insert_last.new.self.backend steps edits inserted.units)
      (sym c.with_unit-inserted.ensures)
      (c.in-Ok.ensures.loading steps edits c.loop-unit.inserted.units (c.loop-unit.invariant.3 steps edits is)),
)
