use Rattle.std.proofs.Common.{◌<◌, ◌∙◌, sym, length, arith}
use Rattle.checkpoints.proofs.Lengths.{same_length}
use Rattle.checkpoints.proofs.Looks.{after_is, none_after_at}
use Rattle.checkpoints.proofs.checkpoints.Checkpoints.after.Goals as goal

pub returns-then-next-len : goal.returns-then-next-len
returns-then-next-len g c =
    let ps = c.self.inside.places in
    let is = rw c.deref.ensures.value at c.places_up_to-next.ensures.value in
    rw (← c.self.view_is)
    (none_after_at ps.items c.self.inside.states.items c.args.place (sym is ∙ c.if-next-len.true ∙ c.len.ensures ∙ ps.ok.0))

pub returns : goal.returns
returns g c =
    let ps = c.self.inside.places in
    let ss = c.self.inside.states in
    let kept = c.self.invariant in
    let same = same_length ps ss c.self.inside.spare kept in
    let is = rw c.deref.ensures.value at c.places_up_to-next.ensures.value in
    let bound = rw c.deref.ensures.value at c.places_up_to-next.ensures.bound in
    let within : c.places_up_to-next.result < length ps.items = omega (arith, bound, ps.ok.0, c.len.ensures, c.if-next-len.false) in
    rw (← c.self.view_is)
    (after_is ps.items ss.items c.args.place c.places_up_to-next.result c.index.result.now c.index-2.result.now kept.rising same is within c.index.ensures c.index-2.ensures)
