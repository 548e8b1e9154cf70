use Rattle.std.proofs.Common.{sym}
use Rattle.checkpoints.proofs.Lengths.{same_length}
use Rattle.checkpoints.proofs.Looks.{get_some, apart_is, lookup_apart}
use Rattle.checkpoints.proofs.checkpoints.Checkpoints.get.Goals as goal

pub returns-then-index-place : goal.returns-then-index-place
returns-then-index-place g c =
    let ps = c.self.inside.places in
    let ss = c.self.inside.states in
    let kept = c.self.invariant in
    let same = same_length ps ss c.self.inside.spare kept in
    let is = rw c.deref.ensures.value at c.places_up_to-found.ensures.value in
    rw (← c.self.view_is)
    (sym (get_some ps.items ss.items c.args.place c.places_up_to-found.result c.index.result.now c.index-then-index-place.result.now kept.first kept.rising same is c.index.ensures c.if-index-place.true c.index-then-index-place.ensures))

pub returns-else-index-place : goal.returns-else-index-place
returns-else-index-place g c =
    let ps = c.self.inside.places in
    let kept = c.self.invariant in
    let is = rw c.deref.ensures.value at c.places_up_to-found.ensures.value in
    rw (← c.self.view_is)
    (sym (lookup_apart ps.items c.self.inside.states.items c.args.place (apart_is ps.items c.args.place c.places_up_to-found.result c.index.result.now kept.first kept.rising is c.index.ensures c.if-index-place.false)))
