use Rattle.std.proofs.Common.{arith}
use Rattle.plan_stream.proofs.Windows.{goes-first, goes-last, goes-more}
use Rattle.plan_stream.proofs.gathering.gather.Goals as goal

pub loop-room-init : goal.loop-room-init
loop-room-init g c = record {
  goes =
      goes-first (g.F.UnitFold.folds c.args.fold) _ c.in_ok-window.window c.new-gathering.result c.in_ok-window.ensures.held c.in_ok-window.ensures.over
      c.new-gathering.ensures;
}

pub returns : goal.returns
returns g c =
    goes-last (g.F.UnitFold.folds c.args.fold) _ _ _ c.loop-room.window _ c.loop-room.gathering _ c.if-branch.false
    c.in_ok-next_split.ensures.shown c.loop-room.invariant.goes

pub loop-room-preserved : goal.loop-room-preserved
loop-room-preserved g c = record {
  goes =
      goes-more (g.F.UnitFold.folds c.args.fold) _ _ _ c.loop-room.window c.next_split.new.self c.loop-room.gathering _ _
      c.if-branch.true c.in_ok-next_split.ensures.shown (rw c.text.ensures at (c.in_ok-add.ensures.gathered c.args.fold)) c.loop-room.invariant.goes;
}

pub add-requires : goal.add-requires
add-requires g c = rw (c.text.ensures, c.places.ensures) c.in_ok-next_split.ensures.known

pub loop-room-smaller : goal.loop-room-smaller
loop-room-smaller g c =
    let more = c.in_ok-add.ensures.counted in
    omega (arith, more.0, more.1)
