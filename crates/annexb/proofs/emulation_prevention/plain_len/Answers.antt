use Rattle.annexb.proofs.Fronts.{IsPlainFront-some, IsPlainFront-none}
use Rattle.annexb.proofs.emulation_prevention.plain_len.Goals as goal

pub returns-in-Some : goal.returns-in-Some
returns-in-Some c = IsPlainFront-some c.args.bytes.now c.args.limit c.in-Some.zeros (rw c.min.ensures at c.in-Some.ensures)

pub returns-in-None : goal.returns-in-None
returns-in-None c = rw c.min.ensures (IsPlainFront-none c.args.bytes.now c.args.limit (rw c.min.ensures at c.in-None.ensures))
