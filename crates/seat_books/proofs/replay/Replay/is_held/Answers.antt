use Rattle.std.proofs.Common.{refl}
use Rattle.seat_books.proofs.Checked.{not_true}
use Rattle.seat_books.proofs.Shown.{keyless, none_keyless, pending_awaited}
use Rattle.seat_books.proofs.replay.Replay.is_held.Goals as goal

pub returns-in-Pending : goal.returns-in-Pending
returns-in-Pending c = λ key has.
    let shows = rw c.in-Pending.is at c.show.ensures in
    (λ yes. absurd (not_true yes), λ held. absurd (pending_awaited c.args.self.now.session c.args.id key shows has held))

pub returns-in-Fault : goal.returns-in-Fault
returns-in-Fault c = λ key has.
    let shows = rw c.in-Fault.is at c.show.ensures in
    (λ yes. absurd (not_true yes), λ held. absurd (keyless c.args.self.now.session.register.stream c.args.id key _ (λ before. refl) shows has))

pub returns-in-Empty : goal.returns-in-Empty
returns-in-Empty c = λ key has.
    let shows = rw c.in-Empty.is at c.show.ensures in
    (λ yes. absurd (not_true yes), λ held. absurd (keyless c.args.self.now.session.register.stream c.args.id key _ (λ before. refl) shows has))

pub returns-in-NoSuchUnit : goal.returns-in-NoSuchUnit
returns-in-NoSuchUnit c = λ key has.
    let shows = rw c.in-NoSuchUnit.is at c.show.ensures in
    (λ yes. absurd (not_true yes), λ held. absurd (none_keyless c.args.self.now.session c.args.id key shows has))
