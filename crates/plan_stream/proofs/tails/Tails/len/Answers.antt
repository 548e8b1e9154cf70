use Rattle.std.proofs.Common.{◌≡◌, length, arith, sym}
use Rattle.plan_stream.proofs.Pieces.{length-pieces}
use Rattle.plan_stream.proofs.tails.Tails.len.Goals as goal

pub returns : goal.returns
returns c =
    let ends = c.self.inside.ends in
    let count : length c.args.self.now ≡ length ends.items = rw (sym c.self.view_is) (length-pieces 0 ends.items c.self.inside.bytes.items) in
    omega (arith, count, c.len.ensures, ends.ok.0)
