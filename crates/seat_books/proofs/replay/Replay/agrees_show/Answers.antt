use Rattle.std.proofs.Common.{arith, inl, inr}
use Rattle.seat_books.specs.declared.receipts.SeatReceipt.TheVariants.{Show}
use Rattle.seat_books.proofs.Checked.{checked_show, if_ok, show_too_low, unchecked}
use Rattle.seat_books.proofs.replay.Replay.agrees_show.Goals as goal

pub returns : goal.returns
returns c =
    if_ok c.sees.result _ _
    (λ possible sees books seat earlier tabled up.
    let mid = (rw c.if-not-branch.false at c.in_ok-comes_to.ensures) books seat earlier tabled up.replayed in
    checked_show c.args.journal.now books seat earlier c.comes_to.new.self c.sees.new.self c.args.id c.args.shown c.args.length possible
    mid.0 mid.1 (sees c.args.journal.now books seat earlier mid.0))
    c.sees.ensures

pub returns-then-not-branch : goal.returns-then-not-branch
returns-then-not-branch c = λ books seat earlier tabled up.
    let late = (rw c.if-not-branch.true at c.in_ok-comes_to.ensures) books seat earlier tabled up.replayed in
    unchecked c.args.journal.now books seat earlier (Show c.args.id c.args.shown c.args.length) c.comes_to.new.self
    (λ agrees.
    elim late [
      | inl low ↦ show_too_low c.args.journal.now books seat earlier c.args.self.now c.args.id c.args.shown c.args.length up low agrees
      | inr long ↦ omega (arith, long, agrees.leads.within)
    ])
