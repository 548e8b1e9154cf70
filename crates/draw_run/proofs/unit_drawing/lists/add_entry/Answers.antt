use Rattle.draw_run.proofs.unit_drawing.lists.add_entry.Goals as goal

pub returns-in-Some : goal.returns-in-Some
returns-in-Some c = let h = c.reference_at.ensures in let k = c.in-Some.is in rw (← h, k) c.add.ensures
