use Rattle.std.proofs.Common.{◌≡◌, ◌+◌, ◌<◌, length, take, List, Some, ap, sym, ◌∙◌, subst, refl, arith}
use Rattle.std.specs.Prelude.{slice_get}
use Rattle.std.proofs.lemmas.List.{take_all}
use Rattle.std.proofs.lemmas.Option.{slice_get_read}
use Rattle.seat_books.specs.declared.drop_table.SeatDrop.{SeatDrop}
use Rattle.seat_books.specs.declared.replay.Replay.{Replay}
use Rattle.seat_books.specs.Drops.{AreLost, drops_at}
use Rattle.seat_books.specs.Following.{reach}
use Rattle.seat_books.proofs.Lost.{IsPassed, IsPassed-other, IsPassed-own}
use Rattle.seat_books.proofs.replay.Replay.pass_drops.Goals as goal
use Rattle.seat_books.proofs.replay.Replay.pass_drops.Goals.{then-dropped-self+in_ok-lose, else-dropped-self}

pub loop-dropped-preserved : goal.loop-dropped-preserved
loop-dropped-preserved c =
    let drops : List SeatDrop = drops_at c.args.drops.now (reach c.args.self.now) in
    let start : Replay = record {
      alloc = c.args.self.now.alloc;
      seat = c.args.self.now.seat;
      session = c.args.self.now.session;
      device = c.args.self.now.device;
      ready = c.args.self.now.ready;
      gone = c.new.result;
    } in
    let same : c.at-dropped-items.result.now ≡ drops =
    c.at-dropped-items.ensures ∙ ap (drops_at c.args.drops.now) c.reach.ensures in
    let read = rw same at c.dropped-item.is in
    let within : c.loop-dropped.dropped-index < length drops = omega (arith, c.loop-dropped-test.true, ap length same) in
    let stands : slice_get drops c.loop-dropped.dropped-index ≡ Some c.dropped-item.result =
    slice_get_read drops (length drops) c.loop-dropped.dropped-index c.dropped-item.result refl within read in
    elim c.if-dropped-self.branch [
      | then-dropped-self+in_ok-lose w ↦
          subst (λ (now : Replay). IsPassed start drops (c.loop-dropped.dropped-index + 1) now) (sym w.self-is)
          (IsPassed-other start drops c.loop-dropped.dropped-index c.dropped-item.result c.loop-dropped.self w.lose.new.self stands
          (λ own. w.if-dropped-self.true own) w.lose.ensures.own w.lose.ensures.session w.in_ok-lose.ensures.lost
          c.loop-dropped.invariant)
      | else-dropped-self w ↦
          subst (λ (now : Replay). IsPassed start drops (c.loop-dropped.dropped-index + 1) now) (sym w.self-is)
          (IsPassed-own start drops c.loop-dropped.dropped-index c.dropped-item.result c.loop-dropped.self stands
          w.if-dropped-self.false c.loop-dropped.invariant)
    ]

pub returns-clause-gone : goal.returns-clause-gone
returns-clause-gone c =
    let drops : List SeatDrop = drops_at c.args.drops.now (reach c.args.self.now) in
    let same : c.at-dropped-items.result.now ≡ drops =
    c.at-dropped-items.ensures ∙ ap (drops_at c.args.drops.now) c.reach.ensures in
    let all : take c.loop-dropped.dropped-index drops ≡ drops =
    take_all c.loop-dropped.dropped-index drops (omega (arith, c.loop-dropped-test.false, ap length same)) in
    subst (λ (list : List SeatDrop). AreLost c.args.self.now.session c.args.self.now.seat list c.loop-dropped.self.gone) all
    c.loop-dropped.invariant.gone
