use Rattle.std.proofs.Common.{◌∙◌}
use Rattle.checkpoints.proofs.Lengths.{same_length}
use Rattle.checkpoints.proofs.Looks.{last_is}
use Rattle.checkpoints.proofs.checkpoints.Checkpoints.last.Goals as goal

pub returns : goal.returns
returns g c =
    let ps = c.self.inside.places in
    let ss = c.self.inside.states in
    let kept = c.self.invariant in
    let same = same_length ps ss c.self.inside.spare kept in
    rw (← c.self.view_is)
    (last_is ps.items ss.items c.len-at.result c.index.result.now c.index-2.result.now kept.first kept.rising same (c.len-at.ensures ∙ ps.ok.0) c.index.ensures c.index-2.ensures)
