use Rattle.std.proofs.Common.{◌≡◌, length, take, Some, ◌∙◌, subst, refl, arith, List}
use Rattle.std.specs.Prelude.{◌↔◌, slice_get, Contains}
use Rattle.std.proofs.lemmas.List.{take_all}
use Rattle.std.proofs.lemmas.Option.{slice_get_read}
use Rattle.seat_books.specs.declared.book.SeatBook.{SeatBook}
use Rattle.seat_books.specs.Drops.{IsDropOf, drops_at}
use Rattle.seat_books.proofs.Tabled.{of_more}
use Rattle.seat_books.proofs.drop_table.DropTable.of.Goals as goal

pub loop-seat-preserved : goal.loop-seat-preserved
loop-seat-preserved c =
    let stands : slice_get c.args.books.now c.loop-seat.seat ≡ Some c.index-books-seat.result =
    slice_get_read c.args.books.now (length c.args.books.now) c.loop-seat.seat c.index-books-seat.result refl c.loop-seat-test.true
    c.index-books-seat.is in
    record {
      size = c.in_ok-add_book.ensures.size ∙ c.loop-seat.invariant.size;
      drops = λ n drop low.
          of_more n drop c.args.books.now c.loop-seat.seat c.index-books-seat.result (drops_at c.loop-seat.table n)
          (drops_at c.add_book.new.self n) stands (c.loop-seat.invariant.drops n drop low)
          (c.in_ok-add_book.ensures.drops n drop (omega (arith, low, c.loop-seat.invariant.size)));
    }

pub returns : goal.returns
returns c = λ n drop low.
    let all : take c.loop-seat.seat c.args.books.now ≡ c.args.books.now =
    take_all c.loop-seat.seat c.args.books.now (omega (arith, c.loop-seat-test.false)) in
    subst (λ (books : List SeatBook). Contains (drops_at c.loop-seat.table n) drop ↔ IsDropOf books n drop) all
    (c.loop-seat.invariant.drops n drop low)
