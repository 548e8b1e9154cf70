use Rattle.checkpoints.proofs.Lengths.{same_length}
use Rattle.checkpoints.proofs.Looks.{before_is}
use Rattle.checkpoints.proofs.checkpoints.Checkpoints.before.Goals as goal

pub returns : goal.returns
returns g c =
    let ps = c.self.inside.places in
    let ss = c.self.inside.states in
    let kept = c.self.invariant in
    let same = same_length ps ss c.self.inside.spare kept in
    let is = rw c.deref.ensures.value at c.places_up_to-count.ensures.value in
    rw (← c.self.view_is)
    (before_is ps.items ss.items c.args.place c.places_up_to-count.result c.index.result.now c.index-2.result.now kept.first kept.rising same is c.index.ensures c.index-2.ensures)
