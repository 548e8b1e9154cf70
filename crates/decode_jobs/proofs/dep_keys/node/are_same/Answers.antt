use Rattle.decode_jobs.proofs.SameEntries.{entries_same}
use Rattle.decode_jobs.proofs.dep_keys.node.are_same.Goals as goal

pub returns : goal.returns
returns c = rw c.eq.ensures (entries_same c.args.entries.now c.args.others.now)
