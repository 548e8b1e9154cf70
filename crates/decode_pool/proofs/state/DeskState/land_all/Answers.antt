use Rattle.std.proofs.Common.{◌≡◌, ◌+◌, length, ◌∙◌, arith}
use Rattle.decode_pool.proofs.Batched.{land_first, longer}
use Rattle.decode_pool.proofs.state.DeskState.land_all.Goals as goal

pub loop-at-preserved : goal.loop-at-preserved
loop-at-preserved g c =
    let lands = c.land.ensures.session in
    let one : length c.loop-at.queue.results.items ≡ length c.land.new.queue.results.items + 1 =
    longer c.loop-at.queue.results.items c.land.new.queue.results.items lands.job lands.first in (
      λ to final all others.
          c.loop-at.invariant.0 to final all
          (land_first c.loop-at.self.session c.loop-at.queue c.land.result c.land.new.self.session c.land.new.queue lands
          to final all others),
      omega (arith, one, c.loop-at.invariant.1),
      lands.jobs ∙ c.loop-at.invariant.2,
      c.land.ensures.status ∙ c.loop-at.invariant.3,
    )
