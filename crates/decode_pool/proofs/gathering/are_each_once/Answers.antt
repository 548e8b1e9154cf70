use Rattle.std.proofs.Common.{◌≡◌, ◌+◌, rules}
use Rattle.decode_pool.specs.Finishing.{seats_of}
use Rattle.decode_pool.proofs.Gathered.{each_more}
use Rattle.decode_pool.proofs.gathering.are_each_once.Goals as goal

pub loop-at-preserved : goal.loop-at-preserved
loop-at-preserved c =
    let here : seats_of c.args.seats.now (c.loop-at.at + 1) ≡ 1 = search rules in
    each_more c.loop-at.at c.args.seats.now c.loop-at.invariant here
