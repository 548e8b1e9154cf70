use Rattle.std.proofs.Common.{arith}
use Rattle.seat_books.proofs.Decoded.{Stays-both}
use Rattle.seat_books.proofs.replay.Replay.decode_all.Goals as goal

pub returns-then-not-branch-clause-follows : goal.returns-then-not-branch-clause-follows
returns-then-not-branch-clause-follows c = λ journal books seat earlier replayed.
    c.in_ok-decode_next.ensures.follows journal books seat earlier (c.loop.invariant.follows journal books seat earlier replayed)

pub loop-preserved : goal.loop-preserved
loop-preserved c = record {
  stays =
      Stays-both c.args.self.now.session c.loop.self.session c.decode_next.new.self.session c.loop.invariant.stays
      c.in_ok-decode_next.ensures.stays;
  follows = λ journal books seat earlier replayed.
      c.in_ok-decode_next.ensures.follows journal books seat earlier (c.loop.invariant.follows journal books seat earlier replayed);
  given = omega (arith, c.in_ok-decode_next.ensures.given c.if-not-branch.false, c.loop.invariant.given);
}
