use Rattle.std.proofs.Common.{◌≡◌, length, Some, refl}
use Rattle.std.specs.Prelude.{slice_get}
use Rattle.std.proofs.lemmas.Option.{slice_get_read}
use Rattle.seat_books.proofs.Noting.{AreNoted-more}
use Rattle.seat_books.proofs.Audited.{FirstBooksAgree-more}
use Rattle.seat_books.proofs.auditing.audit.Goals as goal

pub returns-in-Some-clause-err : goal.returns-in-Some-clause-err
returns-in-Some-clause-err c = record {
  at = c.loop-at.at;
  book = c.index-books-at.result;
  counted = refl;
  stands =
      slice_get_read c.args.books.now (length c.args.books.now) c.loop-at.at c.index-books-at.result refl c.loop-at-test.true
      c.index-books-at.is;
  before = c.loop-at.invariant.agreed;
  fault = (rw c.in-Some.is at c.in_ok-number.ensures) c.args.books.now c.loop-at.invariant.noted c.in_ok-drops.ensures;
}

pub loop-at-preserved : goal.loop-at-preserved
loop-at-preserved c =
    let stands : slice_get c.args.books.now c.loop-at.at ≡ Some c.index-books-at.result =
    slice_get_read c.args.books.now (length c.args.books.now) c.loop-at.at c.index-books-at.result refl c.loop-at-test.true
    c.index-books-at.is in
    record {
      agreed =
          FirstBooksAgree-more c.args.journal.now c.args.books.now c.loop-at.at c.index-books-at.result stands
          ((rw c.in_default.is at c.in_ok-number.ensures) c.args.books.now c.loop-at.invariant.noted c.in_ok-drops.ensures)
          c.loop-at.invariant.agreed;
      noted =
          AreNoted-more c.args.books.now c.loop-at.at c.index-books-at.result c.loop-at.noted c.note.new.noted stands
          c.loop-at.invariant.noted c.in_ok-note.ensures;
    }
