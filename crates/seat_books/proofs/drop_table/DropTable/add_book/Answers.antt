use Rattle.std.proofs.Common.{◌≡◌, ◌<◌, length, take, Some, ap, ◌∙◌, subst, refl, arith, List}
use Rattle.std.specs.Prelude.{◌↔◌, ◌⊎◌, slice_get, Contains}
use Rattle.std.proofs.lemmas.List.{take_all}
use Rattle.std.proofs.lemmas.Option.{slice_get_read}
use Rattle.seat_books.specs.declared.receipts.SeatReceipt.{SeatReceipt}
use Rattle.seat_books.specs.Drops.{IsDropIn, drops_at}
use Rattle.seat_books.proofs.Tabled.{in_more}
use Rattle.seat_books.proofs.drop_table.DropTable.add_book.Goals as goal

pub loop-receipt-preserved : goal.loop-receipt-preserved
loop-receipt-preserved c =
    let book : List SeatReceipt = c.args.book.now.receipts.items in
    let read = rw c.deref-receipt-items.ensures.value at c.receipt-item.is in
    let within : c.loop-receipt.receipt-index < length book =
    omega (arith, c.loop-receipt-test.true, ap length c.deref-receipt-items.ensures.value) in
    let stands : slice_get book c.loop-receipt.receipt-index ≡ Some c.receipt-item.result =
    slice_get_read book (length book) c.loop-receipt.receipt-index c.receipt-item.result refl within read in
    record {
      size = c.in_ok-add.ensures.size ∙ c.loop-receipt.invariant.size;
      drops = λ n drop low.
          in_more c.args.seat n drop book c.loop-receipt.receipt-index c.receipt-item.result (drops_at c.args.self.now n)
          (drops_at c.loop-receipt.self n) (drops_at c.add.new.self n) stands (c.loop-receipt.invariant.drops n drop low)
          (c.in_ok-add.ensures.drops n drop (omega (arith, low, c.loop-receipt.invariant.size)));
    }

pub returns-clause-drops : goal.returns-clause-drops
returns-clause-drops c = λ n drop low.
    let book : List SeatReceipt = c.args.book.now.receipts.items in
    let all : take c.loop-receipt.receipt-index book ≡ book =
    take_all c.loop-receipt.receipt-index book
    (omega (arith, c.loop-receipt-test.false, ap length c.deref-receipt-items.ensures.value)) in
    subst (λ (receipts : List SeatReceipt). Contains (drops_at c.loop-receipt.self n) drop
    ↔ (Contains (drops_at c.args.self.now n) drop ⊎ IsDropIn c.args.seat receipts n drop)) all
    (c.loop-receipt.invariant.drops n drop low)
