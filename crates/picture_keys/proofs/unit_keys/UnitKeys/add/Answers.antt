use Rattle.picture_keys.specs.Known.{key_of_outcome, known_after, known_with}
use Rattle.picture_keys.proofs.Following.{follow_with}
use Rattle.picture_keys.proofs.unit_keys.UnitKeys.add.Goals as goal

pub number_of-requires : goal.number_of-requires
number_of-requires g c = rw (← c.self.view_is) at c.requires

pub returns-clause-ok : goal.returns-clause-ok
returns-clause-ok g c = λ known units follow.
    let numbered = rw (← c.self.view_is) at follow.numbered in
    let has = c.in_ok-number.ensures.ok (known_after known units) numbered in
    follow_with c.args.keys.now c.number_of.new.keys known units c.args.id c.args.outcome.now c.args.self.now _
    c.in_ok-number.number c.in_ok-number.ensures.stay follow has
    (rw (← c.self.view_is, ← c.reserve.ensures.items) c.push_reserved.ensures.items)

pub returns-clause-some : goal.returns-clause-some
returns-clause-some g c =
    let numbered = rw (← c.self.view_is) at c.requires.1 in (
      known_with c.requires.0 c.args.id (key_of_outcome c.requires.0 c.args.outcome.now),
      (c.in_ok-number.ensures.ok c.requires.0 numbered).numbered,
    )
