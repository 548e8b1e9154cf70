use Rattle.std.proofs.Common.{arith}
use Rattle.std.proofs.lemmas.Slice.Zip.{length-zip}
use Rattle.checkpoints.proofs.Lengths.{same_length}
use Rattle.checkpoints.proofs.Looks.{in_order}
use Rattle.checkpoints.proofs.checkpoints.Checkpoints.len.Goals as goal

pub returns-clause-len : goal.returns-clause-len
returns-clause-len g c =
    let ps = c.self.inside.places in
    let ss = c.self.inside.states in
    let kept = c.self.invariant in
    let same = same_length ps ss c.self.inside.spare kept in
    rw (← c.self.view_is) (omega (arith, length-zip ps.items ss.items, same, ss.ok.0, c.len.ensures))

pub returns-clause-in_order : goal.returns-clause-in_order
returns-clause-in_order g c =
    let ps = c.self.inside.places in
    let ss = c.self.inside.states in
    let kept = c.self.invariant in
    let same = same_length ps ss c.self.inside.spare kept in
    rw (← c.self.view_is) (in_order ps.items ss.items same kept.first kept.rising)
