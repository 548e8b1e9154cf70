use Rattle.std.proofs.Common.{arith, inl, inr}
use Rattle.seat_books.specs.declared.receipts.SeatReceipt.TheVariants.{Drop}
use Rattle.seat_books.proofs.Checked.{unchecked}
use Rattle.seat_books.proofs.Dropped.{checked_drop, drop_too_low}
use Rattle.seat_books.proofs.replay.Replay.agrees_drop.Goals as goal

pub returns-then-not-branch : goal.returns-then-not-branch
returns-then-not-branch c = λ books seat earlier tabled up.
    let late = (rw c.if-not-branch.true at c.in_ok-comes_to.ensures) books seat earlier tabled up.replayed in
    unchecked c.args.journal.now books seat earlier (Drop c.args.id c.args.answer c.args.length) c.comes_to.new.self
    (λ agrees.
    elim late [
      | inl low ↦ drop_too_low c.args.journal.now books seat earlier c.args.self.now c.args.id c.args.answer c.args.length up low agrees
      | inr long ↦ omega (arith, long, agrees.leads.within)
    ])

pub returns : goal.returns
returns c = λ books seat earlier tabled up.
    let mid = (rw c.if-not-branch.false at c.in_ok-comes_to.ensures) books seat earlier tabled up.replayed in
    checked_drop c.args.journal.now books seat earlier c.comes_to.new.self c.loses.new.self c.args.id c.args.answer c.args.length
    c.loses.result mid.0 mid.1 (c.loses.ensures c.args.journal.now books seat earlier mid.0)
