use Rattle.std.proofs.Common.{take}
use Rattle.seat_books.specs.Books.{FirstBooksAgree}
use Rattle.seat_books.specs.Noting.{AreNoted}
use Rattle.seat_books.proofs.auditing.audit.Given as goal

abbrev pub invariant-loop-at : goal.invariant-loop-at
invariant-loop-at l = record {
  agreed : FirstBooksAgree l.journal l.books l.at;
  noted : AreNoted (take l.at l.books) l.noted;
}
