use Rattle.std.proofs.Common.{arith}
use Rattle.draw_run.proofs.Landed.{keeps-nothing, keeps-then}
use Rattle.draw_run.proofs.settling.settle.Goals as goal

pub loop-init : goal.loop-init
loop-init c = record { keeps = keeps-nothing c.args.session.now c.requires; given = omega arith }

pub loop-preserved : goal.loop-preserved
loop-preserved c = record {
  keeps =
      keeps-then c.args.session.now c.loop.session c.land_next.new.session c.loop.invariant.keeps
      c.in_ok-land_next.ensures.keeps;
  given = omega (arith, c.in_ok-land_next.ensures.given c.if-not-branch.false, c.loop.invariant.given);
}

pub returns-then-not-branch-clause-keeps : goal.returns-then-not-branch-clause-keeps
returns-then-not-branch-clause-keeps c =
    keeps-then c.args.session.now c.loop.session c.land_next.new.session c.loop.invariant.keeps
    c.in_ok-land_next.ensures.keeps

pub returns-then-not-branch-clause-held : goal.returns-then-not-branch-clause-held
returns-then-not-branch-clause-held c = c.in_ok-land_next.ensures.held c.if-not-branch.true
