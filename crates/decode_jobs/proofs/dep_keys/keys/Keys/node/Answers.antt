use Rattle.decode_jobs.proofs.Kept.{found_row, no_row}
use Rattle.decode_jobs.proofs.dep_keys.keys.Keys.node.Goals as goal

pub returns-in-Some : goal.returns-in-Some
returns-in-Some g c =
    rw (← c.self.view_is) (found_row g.F.Fingerprint.digest c.self.inside.slots.items c.self.inside.numbers c.self.inside.index c.self.invariant
    c.args.key c.in-Some.place c.index.result.now (rw c.number.ensures at c.in-Some.ensures) c.index.ensures)

pub returns-in-None : goal.returns-in-None
returns-in-None g c =
    rw (← c.self.view_is) (no_row g.F.Fingerprint.digest c.self.inside.slots.items c.self.inside.numbers c.self.inside.index c.self.invariant
    c.args.key (rw c.number.ensures at c.in-None.ensures))
