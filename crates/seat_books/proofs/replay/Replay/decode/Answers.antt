use Rattle.std.proofs.Common.{subst}
use Rattle.stand_in_device.specs.Jobs.{JobValue}
use Rattle.stand_in_session.specs.Jobs.{AnswersLand}
use Rattle.stand_in_session.specs.Machines.{Machine}
use Rattle.seat_books.specs.declared.replay.Replay.{Replay}
use Rattle.seat_books.proofs.Decoded.{IsReplayed-decoded}
use Rattle.seat_books.proofs.replay.Replay.decode.Goals as goal

pub returns-in-Ok-clause-follows : goal.returns-in-Ok-clause-follows
returns-in-Ok-clause-follows c = λ before journal books seat earlier told replayed.
    let old : Replay = record {
      alloc = c.args.self.now.alloc;
      seat = c.args.self.now.seat;
      session = before;
      device = c.args.self.now.device;
      ready = c.args.self.now.ready;
      gone = c.args.self.now.gone;
    } in
    let new : Replay = record {
      alloc = c.forget.new.self.alloc;
      seat = c.forget.new.self.seat;
      session = c.land.new.self;
      device = c.decode.new.self;
      ready = c.forget.new.self.ready;
      gone = c.forget.new.self.gone;
    } in
    let lands : AnswersLand c.args.self.now.session c.args.job c.land.result c.land.new.self =
    subst (λ (machine : Machine). AnswersLand machine c.args.job c.land.result c.land.new.self) c.forget.ensures.session
    (subst (λ (job : JobValue). AnswersLand c.forget.new.self.session job c.land.result c.land.new.self) c.in-Ok.ensures.done
    c.land.ensures) in
    IsReplayed-decoded journal books seat earlier old new c.args.self.now.session c.args.id c.args.job c.land.result
    c.forget.ensures.own c.forget.ensures.gone told c.forget.ensures.ready lands replayed
