use Rattle.std.proofs.Common.{◌≡◌, ◌+◌, length, ◌∙◌, arith}
use Rattle.decode_pool.proofs.Batched.{give_first, longer}
use Rattle.decode_pool.proofs.state.DeskState.give_back_all.Goals as goal

pub loop-at-preserved : goal.loop-at-preserved
loop-at-preserved g c =
    let gives = c.give_back.ensures.session in
    let one : length c.loop-at.queue.jobs.items ≡ length c.give_back.new.queue.jobs.items + 1 =
    longer c.loop-at.queue.jobs.items c.give_back.new.queue.jobs.items gives.job gives.first in (
      λ to final others.
          c.loop-at.invariant.0 to final
          (give_first c.loop-at.self.session c.loop-at.queue c.give_back.result c.give_back.new.self.session
          c.give_back.new.queue gives to final others),
      omega (arith, one, c.loop-at.invariant.1),
      gives.results ∙ c.loop-at.invariant.2,
      gives.late ∙ c.loop-at.invariant.3,
      c.give_back.ensures.status ∙ c.loop-at.invariant.4,
    )
