use Rattle.seat_books.proofs.Checked.{on_ok}
use Rattle.seat_books.proofs.Tabled.{added_drop}
use Rattle.seat_books.specs.Drops.{drops_at}
use Rattle.seat_books.proofs.drop_table.DropTable.add.Goals as goal

pub returns-in-Dropped-clause-drops : goal.returns-in-Dropped-clause-drops
returns-in-Dropped-clause-drops c =
    rw (c.in-Drop.is, c.in-Dropped.is)
    (on_ok c.put.result _ _
    (λ added n drop within.
    added_drop c.args.seat c.in-Drop.id c.in-Drop.length n drop (drops_at c.args.self.now n) (drops_at c.put.new.self n)
    (added n within))
    c.put.ensures.drops)
