use Rattle.std.proofs.Common.{◌≡◌, ℕ, ◌+◌, ◌<◌, List, true, length, sym, subst}
use Rattle.std.proofs.lemmas.Result.{err_from_is_err_and}
use Rattle.stream_edits.specs.declared.edits.Edit.{Edit}
use Rattle.stream_edits.specs.Edits.{Register, Replays}
use Rattle.stream_edits.specs.Journals.{edits_of}
use Rattle.seat_books.specs.declared.book.SeatBook.{SeatBook}
use Rattle.seat_books.specs.Books.{BooksAgree, is_noted}
use Rattle.decode_pool.specs.Finishing.{AreBooksOf, AreNumbered, IsFinished}
use Rattle.decode_pool.proofs.Ended.{Lacks, audited, finished, missed, want_err}
use Rattle.decode_pool.proofs.finishing.look_through.Goals as goal

pub audit-requires : goal.audit-requires
audit-requires c =
    let session = c.args.session.now in
    let none = c.began_without_units.ensures.0 c.if-not-began_without_units.false in (
      session.register,
      rw (c.journal-journal.ensures.value)
          (subst (λ (origin : Register). Replays origin (edits_of session.journal) session.register) none c.journal-journal.ensures.replayed),
    )

pub returns-in_err-books-clause-err : goal.returns-in_err-books-clause-err
returns-in_err-books-clause-err c =
    let p = err_from_is_err_and c.from_residual.result c.from_residual.ensures.1 in
    want_err c.args.opened c.args.seats.now c.from_residual.result p.0 p.1 p.2

pub returns-in_err-are_noted-clause-err : goal.returns-in_err-are_noted-clause-err
returns-in_err-are_noted-clause-err c =
    let residual = c.from_residual-in_err-are_noted in
    let p = err_from_is_err_and residual.result residual.ensures.1 in
    want_err c.args.opened c.args.seats.now residual.result p.0 p.1 p.2

pub returns-in-Err-clause-err : goal.returns-in-Err-clause-err
returns-in-Err-clause-err c =
    let numbered : AreNumbered c.args.opened c.args.seats.now = c.are_numbered.ensures.0 c.if-not-are_numbered.false in
    let theirs : AreBooksOf c.args.opened c.args.seats.now c.deref.result.now =
    subst (λ (books : List SeatBook). AreBooksOf c.args.opened c.args.seats.now books) (sym c.deref.ensures.value)
    c.in_ok-books.ensures in
    audited c.args.opened c.args.seats.now c.journal-journal.result.now c.deref.result.now c.in-Err.fault
    (λ it. it.items) c.copy_of.result c.refusal_of.result numbered theirs c.copy_of.ensures c.refusal_of.ensures c.in-Err.ensures.err

pub returns-then-not-are_noted-clause-err : goal.returns-then-not-are_noted-clause-err
returns-then-not-are_noted-clause-err c =
    let numbered : AreNumbered c.args.opened c.args.seats.now = c.are_numbered.ensures.0 c.if-not-are_numbered.false in
    let agree : BooksAgree c.journal-journal.result.now c.in_ok-books.books.items =
    subst (λ (books : List SeatBook). BooksAgree c.journal-journal.result.now books) c.deref.ensures.value
    c.in_default.ensures.ok in
    let lacks : Lacks c.journal-journal.result.now c.in_ok-books.books.items =
    subst (λ (books : List SeatBook). Lacks c.journal-journal.result.now books) c.deref-2.ensures.value
    (rw c.if-not-are_noted.true at c.in_ok-are_noted.ensures) in
    missed c.args.opened c.args.seats.now c.journal-journal.result.now c.in_ok-books.books.items (λ it. it.items)
    c.copy_of-then-not-are_noted.result c.with_journal.result numbered c.in_ok-books.ensures agree
    c.copy_of-then-not-are_noted.ensures c.with_journal.ensures lacks

pub returns-clause-ok : goal.returns-clause-ok
returns-clause-ok c =
    let numbered : AreNumbered c.args.opened c.args.seats.now = c.are_numbered.ensures.0 c.if-not-are_numbered.false in
    let agree : BooksAgree c.journal-journal.result.now c.in_ok-books.books.items =
    subst (λ (books : List SeatBook). BooksAgree c.journal-journal.result.now books) c.deref.ensures.value
    c.in_default.ensures.ok in
    let noted : (at : ℕ) → at < length c.journal-journal.result.now → is_noted c.in_ok-books.books.items (at + 1) ≡ true =
    subst (λ (books : List SeatBook). (at : ℕ) → at < length c.journal-journal.result.now → is_noted books (at + 1) ≡ true)
    c.deref-2.ensures.value (rw c.if-not-are_noted.false at c.in_ok-are_noted.ensures) in
    subst (λ (journal : List (List Edit)). IsFinished c.args.opened c.args.seats.now journal) c.journal-journal.ensures.value
    (finished c.args.opened c.args.seats.now c.journal-journal.result.now c.in_ok-books.books.items numbered
    c.in_ok-books.ensures agree noted)
