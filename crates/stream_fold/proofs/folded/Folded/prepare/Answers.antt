use Rattle.std.proofs.Common.{ap, arith, length, rules}
use Rattle.stream_fold.proofs.Range.{is_anew}
use Rattle.stream_fold.proofs.folded.Folded.prepare.Goals as goal

pub returns-clause-ready : goal.returns-clause-ready
returns-clause-ready c =
    record {
      inside = search rules;
      short = search rules;
      made = search rules;
      resume_point = search rules;
      units_spare = omega (arith, c.in_ok-reserve.ensures.ok, c.len.ensures, ap length c.units.ensures);
      states_spare = search rules;
    }

pub returns-clause-anew : goal.returns-clause-anew
returns-clause-anew c =
    let inside = rw (← c.self.view_is) at c.requires.inside in
    let made = rw (← c.self.view_is) at c.in_ok-fold.ensures.made in
    rw (← c.self.view_is)
    (is_anew c.self.inside.units.items c.self.inside.stored.states c.self.inside.end c.self.invariant.0 _ inside made)
