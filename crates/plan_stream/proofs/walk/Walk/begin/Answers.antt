use Rattle.std.proofs.Common.{not, ap, ◌∙◌}
use Rattle.plan_stream.proofs.Walks.{walked-found}
use Rattle.plan_stream.proofs.walk.Walk.begin.Goals as goal

pub returns-then-is_none : goal.returns-then-is_none
returns-then-is_none c =
    let self = c.args.self.now in
    walked-found c.args.bytes.now self.places.items self.next c.first_unit-self.result self.has_slice (c.is_none.ensures ∙ ap not c.if-is_none.true) c.requires c.first_unit-self.ensures
