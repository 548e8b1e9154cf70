use Rattle.decode_pool.proofs.Ended.{numbered_if}
use Rattle.decode_pool.proofs.gathering.are_numbered.Goals as goal

pub returns-then-are_within : goal.returns-then-are_within
returns-then-are_within c =
    numbered_if c.args.opened c.args.seats.now c.are_each_once.result (c.are_within.ensures.0 c.if-are_within.true)
    c.are_each_once.ensures
