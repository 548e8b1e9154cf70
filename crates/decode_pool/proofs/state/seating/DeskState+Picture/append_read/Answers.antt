use Rattle.std.proofs.Common.{List, ℕ, length, ◌∙◌, sym, ap, subst, inl, arith}
use Rattle.decode_pool.specs.Appends.{AppendsOn}
use Rattle.decode_pool.proofs.state.seating.DeskState+Picture.append_read.Goals as goal

pub loop-unit-preserved : goal.loop-unit-preserved
loop-unit-preserved c =
    let one = ap length c.in-Some.ensures.steps.0 in
    let appends = c.in_default.ensures in (
      λ appended to new others.
          c.loop-unit.invariant.0 appended to new
          (subst (λ (parts : List (List (List ℕ))). AppendsOn c.loop-unit.inserted c.loop-unit.self.session c.loop-unit.seat
          parts appended to new)
          (sym c.in-Some.ensures.steps.0) (
            appends.reached,
            inl (
              c.in_default.field-0,
              c.append_one.new.self.session,
              c.append_one.new.seat,
              appends.appended,
              others,
            ),
          )),
      omega (arith, one, c.loop-unit.invariant.1),
      appends.status ∙ c.loop-unit.invariant.2,
    )
