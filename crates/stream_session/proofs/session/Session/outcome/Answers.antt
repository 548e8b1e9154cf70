use Rattle.std.proofs.Common.{◌<◌, length, ap, sym, ◌∙◌, arith}
use Rattle.stream_session.proofs.Looked.{length-outcomes_of, outcome_found}
use Rattle.stream_session.proofs.session.Session.outcome.Goals as goal

pub bounds-outcomes-place : goal.bounds-outcomes-place
bounds-outcomes-place g c =
    omega (
      arith,
      rw (← c.self.view_is) at c.in-Some.ensures.inside,
      ap length c.outcomes.ensures,
      ap length c.self.invariant.folded,
      length-outcomes_of c.self.inside.ordered.folded.stream,
    )

pub returns-in-Some : goal.returns-in-Some
returns-in-Some g c =
    let stands = sym (rw (← c.self.view_is) at c.in-Some.ensures.value) in
    let within : c.in-Some.place < length c.outcomes.result.now =
    omega (
      arith,
      rw (← c.self.view_is) at c.in-Some.ensures.inside,
      ap length c.outcomes.ensures,
      ap length c.self.invariant.folded,
      length-outcomes_of c.self.inside.ordered.folded.stream,
    ) in
    rw (c.deref-outcome.ensures, c.deref.ensures, ← c.self.view_is)
    (outcome_found c.self.inside.ordered.folded.stream c.args.id c.in-Some.place c.outcomes.result.now c.index-outcomes-place.result stands
    (c.outcomes.ensures ∙ c.self.invariant.folded) within c.index-outcomes-place.is)
