use Rattle.stream_mending.proofs.Sound.{joins_first}
use Rattle.stream_mending.proofs.joint.joint_of.Goals as goal

pub returns-in-None : goal.returns-in-None
returns-in-None c = λ slices first. joins_first slices c.args.unit.now (rw c.in-None.is at first)
