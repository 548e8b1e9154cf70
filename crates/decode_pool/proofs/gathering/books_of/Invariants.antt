use Rattle.decode_pool.specs.Finishing.{AreBooksOf}
use Rattle.decode_pool.proofs.gathering.books_of.Given as goal

abbrev pub invariant-loop-at : goal.invariant-loop-at
invariant-loop-at l = AreBooksOf l.at l.seats l.books.items
