use Rattle.std.proofs.Common.{refl}
use Rattle.stream_session.specs.declared.showing.Shown.TheVariants as shown
use Rattle.seat_books.proofs.Checked.{Sees-plain}
use Rattle.seat_books.proofs.replay.Replay.sees.Goals as goal

pub returns-in-Fault : goal.returns-in-Fault
returns-in-Fault c = λ journal books seat earlier replayed.
    rw c.in-Fault.is
    (Sees-plain journal books seat earlier c.args.self.now c.args.self.now c.args.id (shown.Fault c.in-Fault.fault) c.has_fault.result
    (λ key shows. shows) refl replayed c.has_fault.ensures.0 c.has_fault.ensures.1)

pub returns-in-Empty : goal.returns-in-Empty
returns-in-Empty c = λ journal books seat earlier replayed.
    rw c.in-Empty.is
    (Sees-plain journal books seat earlier c.args.self.now c.args.self.now c.args.id shown.Empty c.is_empty.result
    (λ key shows. shows) refl replayed c.is_empty.ensures.0 c.is_empty.ensures.1)

pub returns-in-NoSuchUnit : goal.returns-in-NoSuchUnit
returns-in-NoSuchUnit c = λ journal books seat earlier replayed.
    rw c.in-NoSuchUnit.is
    (Sees-plain journal books seat earlier c.args.self.now c.args.self.now c.args.id shown.NoSuchUnit c.is_absent.result
    (λ key shows. shows) refl replayed c.is_absent.ensures.0 c.is_absent.ensures.1)

pub returns-in-Ready : goal.returns-in-Ready
returns-in-Ready c = rw c.in-Ready.is c.shows.ensures

pub returns-in-Pending : goal.returns-in-Pending
returns-in-Pending c = rw c.in-Pending.is c.may_wait.ensures
