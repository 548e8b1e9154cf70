-- The session that is taken out is changed, and put back.
use Rattle.cupdaisy.proofs.edits.cupdaisy_load.Goals as goal

pub returns : goal.returns
returns c =
    rw c.in-Some.ensures.takes
    (c.load-status.new.session, c.put.ensures, rw c.deref_mut.ensures.value at c.load-status.ensures)
