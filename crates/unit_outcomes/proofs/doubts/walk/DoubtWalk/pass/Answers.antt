use Rattle.unit_outcomes.proofs.doubts.walk.DoubtWalk.pass.Goals as goal

pub returns : goal.returns
returns c = λ units at differ there before.
    c.in_ok-passed.ensures units at c.args.is_reference differ there c.is_break-breaks.ensures before
