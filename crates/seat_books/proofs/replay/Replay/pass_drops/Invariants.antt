use Rattle.seat_books.specs.Drops.{drops_at}
use Rattle.seat_books.specs.Following.{reach}
use Rattle.seat_books.proofs.Lost.{IsPassed}
use Rattle.seat_books.proofs.replay.Replay.pass_drops.Given as goal

abbrev pub invariant-loop-dropped : goal.invariant-loop-dropped
invariant-loop-dropped l =
    IsPassed l.initial.self (drops_at l.drops (reach l.initial.self)) l.dropped-index l.self
