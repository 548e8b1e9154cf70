use Rattle.std.proofs.Common.{List, refl, sym, ◌∙◌, subst, inr, arith}
use Rattle.decode_jobs.specs.Jobs.{JobValue}
use Rattle.decode_pool.specs.Batches.{TakesAll}
use Rattle.decode_pool.proofs.Batched.{next_after, take_more, take_none}
use Rattle.decode_pool.proofs.state.DeskState.take_some.Goals as goal

pub returns-then-count-ge-MOST_JOBS-clause-taken : goal.returns-then-count-ge-MOST_JOBS-clause-taken
returns-then-count-ge-MOST_JOBS-clause-taken g c =
    next_after g.P.Decoded.IsOf c.args.self.now.session c.loop-at.queue.jobs.items c.loop-at.self.session c.loop-at.self.session
    c.unless_in_hand.result c.loop-at.invariant.0 (inr refl) c.unless_in_hand.ensures.none c.unless_in_hand.ensures.some

pub returns-in-Err-clause-taken : goal.returns-in-Err-clause-taken
returns-in-Err-clause-taken g c =
    let refused = c.in-Err.ensures.session in
    next_after g.P.Decoded.IsOf c.args.self.now.session c.take.new.queue.jobs.items c.loop-at.self.session c.take.new.self.session
    c.unless_in_hand-in-Err.result
    (subst (λ (jobs : List (JobValue g.row.P.Denot)). TakesAll g.P.Decoded.IsOf c.args.self.now.session jobs c.loop-at.self.session) (sym refused.1.jobs)
    c.loop-at.invariant.0)
    (take_none g.P.Decoded.IsOf c.loop-at.self.session c.in-Err.field-0 c.take.new.self.session refused.0)
    c.unless_in_hand-in-Err.ensures.none c.unless_in_hand-in-Err.ensures.some

pub loop-at-preserved : goal.loop-at-preserved
loop-at-preserved g c =
    let more = take_more c.args.self.now.session c.loop-at.self.session c.loop-at.queue c.in-Ok-true.field-0
    c.take.new.self.session c.take.new.queue c.in-Ok-true.ensures.session c.in-Ok-true.field-0-test
    c.loop-at.invariant.0 in (
      more.0,
      omega (arith, more.1, c.loop-at.invariant.1),
      more.2 ∙ c.loop-at.invariant.2,
      more.3 ∙ c.loop-at.invariant.3,
      more.4 ∙ c.loop-at.invariant.4,
      c.take.ensures.status ∙ c.loop-at.invariant.5,
    )
