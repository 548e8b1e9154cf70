use Rattle.std.proofs.Common.{Bool, [], ◌∷◌, arith, subst}
use Rattle.script_run.specs.Settling.{LandsNext}
use Rattle.script_run.proofs.Waits.{lands_given}
use Rattle.script_run.proofs.settling.settle_jobs.Goals as goal

pub returns-then-not-branch-clause-settles : goal.returns-then-not-branch-clause-settles
returns-then-not-branch-clause-settles c =
    let next = c.land_next.new.runner in
    let none =
    subst (λ (b : Bool). LandsNext c.args.unit c.loop.runner b next) c.if-not-branch.true c.in_ok-land_next.ensures.lands in
    c.loop.invariant.lands [] next none

pub loop-preserved : goal.loop-preserved
loop-preserved c =
    let next = c.land_next.new.runner in
    let lands =
    subst (λ (b : Bool). LandsNext c.args.unit c.loop.runner b next) c.if-not-branch.false c.in_ok-land_next.ensures.lands in
    let more = lands_given c.args.unit c.loop.runner lands.0 next lands.1 in
    let before = c.loop.invariant.given in
    record {
      lands = λ jobs new settles. c.loop.invariant.lands (lands.0 ∷ jobs) new (next, lands.1, settles);
      given = omega (arith, more, before);
    }
