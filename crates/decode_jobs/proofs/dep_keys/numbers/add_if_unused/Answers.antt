use Rattle.decode_jobs.proofs.Unused.{left_unused}
use Rattle.decode_jobs.proofs.dep_keys.numbers.add_if_unused.Goals as goal

pub returns-in-None-clause-items : goal.returns-in-None-clause-items
returns-in-None-clause-items c =
    rw c.push_reserved.ensures.items (left_unused c.args.live.now c.args.unused.now.items c.args.number c.in-None.ensures)
