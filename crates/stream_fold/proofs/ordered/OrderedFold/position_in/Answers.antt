use Rattle.std.proofs.Common.{arith}
use Rattle.request_core.specs.Fold.{outcomes_of}
use Rattle.stream_fold.proofs.Placed.{position_read}
use Rattle.stream_fold.proofs.Ranges.{length-units, length-outcomes}
use Rattle.stream_fold.proofs.ordered.OrderedFold.position_in.Goals as goal

pub position_in-requires-clause-within : goal.position_in-requires-clause-within
position_in-requires-clause-within c =
    let within = rw (← c.self.view_is) at c.requires.within in
    omega (arith, within, length-units c.self.inside.folded.stream c.self.inside.periods.periods c.self.invariant)

pub position_in-requires-clause-spare : goal.position_in-requires-clause-spare
position_in-requires-clause-spare c =
    let spare = rw (← c.self.view_is) at c.requires.spare in
    omega (arith, spare, length-units c.self.inside.folded.stream c.self.inside.periods.periods c.self.invariant)

pub returns-clause-position : goal.returns-clause-position
returns-clause-position c =
    let stream = c.self.inside.folded.stream in
    let within = rw (← c.self.view_is) at c.requires.within in
    rw (← c.self.view_is)
    (position_read (outcomes_of stream) c.args.place c.position_in.result (omega (arith, within, length-outcomes stream))
    (c.position_in.ensures.position (outcomes_of stream) c.self.invariant))

pub returns-clause-few : goal.returns-clause-few
returns-clause-few c = rw (← c.self.view_is) (c.position_in.ensures.few (outcomes_of c.self.inside.folded.stream) c.self.invariant)

pub returns-clause-searched : goal.returns-clause-searched
returns-clause-searched c = rw (← c.self.view_is) (c.position_in.ensures.searched (outcomes_of c.self.inside.folded.stream) c.self.invariant)
