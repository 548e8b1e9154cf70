use Rattle.stand_in_session.specs.declared.jobs.Dropping.TheVariants as dropping
use Rattle.seat_books.proofs.Dropped.{Loses-dropped, Loses-keyless, Loses-plain, Loses-waits}
use Rattle.seat_books.proofs.replay.Replay.loses.Goals as goal

pub returns-in-Dropped : goal.returns-in-Dropped
returns-in-Dropped c = λ journal books seat earlier replayed.
    rw c.in-Dropped.is
    (Loses-dropped journal books seat earlier c.args.self.now c.forget.new.self c.args.id c.has_key-is_valid.result replayed
    c.has_key-is_valid.ensures c.forget.ensures.own c.forget.ensures.session c.forget.ensures.gone c.forget.ensures.ready)

pub returns-then-has_no_key : goal.returns-then-has_no_key
returns-then-has_no_key c = λ journal books seat earlier replayed.
    rw c.in-NotHeld.is
    (Loses-keyless journal books seat earlier c.args.self.now c.args.id c.has_no_key.result replayed
    c.if-has_no_key.true c.has_no_key.ensures)

pub returns-else-has_no_key : goal.returns-else-has_no_key
returns-else-has_no_key c = λ journal books seat earlier replayed.
    rw c.in-NotHeld.is
    (Loses-waits journal books seat earlier c.args.self.now c.args.id c.has_no_key.result c.may_wait.result replayed
    c.if-has_no_key.false c.has_no_key.ensures (c.may_wait.ensures journal books seat earlier replayed))

pub returns-in-NoSuchUnit : goal.returns-in-NoSuchUnit
returns-in-NoSuchUnit c = λ journal books seat earlier replayed.
    rw c.in-NoSuchUnit.is
    (Loses-plain journal books seat earlier c.args.self.now c.args.id dropping.NoSuchUnit c.is_absent.result (λ same. cc) replayed
    c.is_absent.ensures.0 c.is_absent.ensures.1)
