use Rattle.unit_outcomes.specs.Sets.{has}
use Rattle.unit_outcomes.proofs.Next.{passed}
use Rattle.unit_outcomes.proofs.doubts.walk.DoubtWalk.pass_by.Goals as goal

pub returns : goal.returns
returns c = λ units at is_reference differ there breaks before.
    let walk = c.in_ok-walk.walk in
    passed units at (record { id = c.args.id; is_reference = is_reference; outcome = c.args.outcome.now })
    c.args.self.first (has c.args.self.sound) c.doubt-doubt.result walk.first (has walk.sound)
    c.doubt-doubt.ensures (rw breaks at c.in_ok-walk.ensures.first) (rw breaks at c.in_ok-walk.ensures.sound) differ there before
