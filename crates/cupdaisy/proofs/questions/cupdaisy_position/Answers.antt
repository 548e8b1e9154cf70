-- The session that is taken out is asked, and put back.
use Rattle.cupdaisy.proofs.questions.cupdaisy_position.Goals as goal

pub returns : goal.returns
returns c =
    rw c.in-Some.ensures.takes (c.put.ensures, rw c.deref.ensures at c.position-status.ensures)
