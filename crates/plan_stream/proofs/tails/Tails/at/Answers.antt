use Rattle.std.proofs.Common.{◌≡◌, length, arith, sym}
use Rattle.plan_stream.proofs.Pieces.{length-pieces}
use Rattle.plan_stream.proofs.tails.Tails.at.Goals as goal

pub piece-requires-clause-within : goal.piece-requires-clause-within
piece-requires-clause-within c =
    let count : length c.args.self.now ≡ length c.self.inside.ends.items = rw (sym c.self.view_is) (length-pieces 0 c.self.inside.ends.items c.self.inside.bytes.items) in
    omega (arith, c.requires, count, c.deref-2.ensures.len)
