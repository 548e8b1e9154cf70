use Rattle.std.proofs.Common.{◌≡◌, length, arith}
use Rattle.stream_fold.specs.Refolding.{Begins, IsStart}
use Rattle.stream_fold.proofs.Anew.{if_ok, last_near, starts_at_end}
use Rattle.stream_fold.proofs.folded.Folded.start.Goals as goal

pub new-requires-clause-near : goal.new-requires-clause-near
new-requires-clause-near c =
    omega (arith, (last_near c.self.inside.units.items c.self.inside.stored.states c.self.inside.end c.self.invariant.0 c.last.result.place c.last.result.state.now c.last.ensures).1, c.if-at-len.true, c.len.ensures)

pub returns-then-at-len : goal.returns-then-at-len
returns-then-at-len c =
    let is : c.args.at ≡ length c.self.inside.units.items = omega (arith, c.if-at-len.true, c.len.ensures) in
    rw (← c.self.view_is)
    (if_ok (Begins c.args.at c.last.result.place c.self.inside.end) (IsStart c.args.at c.self.inside.units.items c.self.inside.stored.states) c.new.result
    (λ fold begun. starts_at_end c.self.inside.units.items c.self.inside.stored.states c.self.inside.end c.self.invariant.0 c.args.at c.last.result.place c.last.result.state.now fold is c.last.ensures begun)
    c.new.ensures)
