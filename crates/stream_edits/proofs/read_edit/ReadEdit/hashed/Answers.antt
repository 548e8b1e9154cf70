-- A unit knows how many bytes were hashed for it.
use Rattle.stream_edits.proofs.Hashed.{hashed_none, hashed_some}
use Rattle.stream_edits.proofs.read_edit.ReadEdit.hashed.Goals as goal

pub returns-in-Some : goal.returns-in-Some
returns-in-Some c =
    rw (← c.self.view_is)
    (hashed_some c.self.inside.edit c.in-Some.unit _ (rw c.in-Some.is at c.self.invariant) (rw c.deref.ensures at c.hashed.ensures))

pub returns-in-None : goal.returns-in-None
returns-in-None c = rw (← c.self.view_is) (hashed_none c.self.inside.edit (rw c.in-None.is at c.self.invariant))
