use Rattle.draw_run.proofs.doubt_line.add_follows.Goals as goal

pub returns-in-Some : goal.returns-in-Some
returns-in-Some c = let said = rw c.number.ensures at c.add_line.ensures in rw c.in-Some.is said
