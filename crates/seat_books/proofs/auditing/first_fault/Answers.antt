use Rattle.std.proofs.Common.{◌≡◌, ◌<◌, List, true, length, take, Some, ap, sym, ◌∙◌, subst, refl, arith, rules}
use Rattle.std.specs.Prelude.{slice_get}
use Rattle.std.proofs.lemmas.Option.{slice_get_read}
use Rattle.seat_books.specs.declared.receipts.SeatReceipt.{SeatReceipt}
use Rattle.seat_books.specs.Following.{IsUpTo}
use Rattle.seat_books.proofs.Audited.{FirstAgree-more, take_next_receipt}
use Rattle.seat_books.proofs.Checked.{not_false, not_true}
use Rattle.seat_books.proofs.auditing.first_fault.Goals as goal

pub returns-then-not-branch : goal.returns-then-not-branch
returns-then-not-branch c = λ books noted dropped.
    let read = rw c.deref-receipt-items.ensures.value at c.receipt-item.is in
    let within : c.loop-at.at < length c.args.book.now.receipts.items =
    omega (arith, c.loop-at-test.true, ap length c.deref-receipt-items.ensures.value) in
    let checked = c.in_ok-agrees.ensures books c.args.seat (take c.loop-at.at c.args.book.now.receipts.items) noted dropped
    (c.loop-at.invariant.up_to books noted dropped) in
    record {
      at = c.loop-at.at;
      receipt = c.receipt-item.result;
      counted = refl;
      stands =
          slice_get_read c.args.book.now.receipts.items (length c.args.book.now.receipts.items) c.loop-at.at c.receipt-item.result refl within read;
      before = c.loop-at.invariant.agreed books noted dropped;
      differs = λ agrees. not_true (sym c.if-not-branch.true ∙ checked.only agrees);
    }

pub loop-at-preserved : goal.loop-at-preserved
loop-at-preserved c =
    let read = rw c.deref-receipt-items.ensures.value at c.receipt-item.is in
    let within : c.loop-at.at < length c.args.book.now.receipts.items =
    omega (arith, c.loop-at-test.true, ap length c.deref-receipt-items.ensures.value) in
    let stands : slice_get c.args.book.now.receipts.items c.loop-at.at ≡ Some c.receipt-item.result =
    slice_get_read c.args.book.now.receipts.items (length c.args.book.now.receipts.items) c.loop-at.at c.receipt-item.result refl within read in
    let yes : c.in_ok-agrees.field-0 ≡ true = search (rules, not_false) in
    record {
      agreed = λ books noted dropped.
          FirstAgree-more c.args.journal.now books c.args.seat c.args.book.now.receipts.items c.loop-at.at c.receipt-item.result stands
          ((c.in_ok-agrees.ensures books c.args.seat (take c.loop-at.at c.args.book.now.receipts.items) noted dropped
          (c.loop-at.invariant.up_to books noted dropped)).is yes)
          (c.loop-at.invariant.agreed books noted dropped);
      up_to = λ books noted dropped.
          subst (λ (receipts : List SeatReceipt). IsUpTo c.args.journal.now books c.args.seat receipts c.agrees.new.self)
          (sym (take_next_receipt c.args.book.now.receipts.items c.loop-at.at c.receipt-item.result stands))
          ((c.in_ok-agrees.ensures books c.args.seat (take c.loop-at.at c.args.book.now.receipts.items) noted dropped
          (c.loop-at.invariant.up_to books noted dropped)).follows yes);
    }

pub loop-at-init : goal.loop-at-init
loop-at-init c = record {
  agreed = λ books noted dropped at receipt low there. absurd (omega (arith, low));
  up_to = λ books noted dropped. c.in_ok-replay.ensures c.args.journal.now books;
}
