use Rattle.std.proofs.Common.{List, inr, subst}
use Rattle.stream_edits.specs.declared.edits.Edit.{Edit}
use Rattle.serve_calls.specs.Editing.{MakesStep}
use Rattle.serve_calls.proofs.Replayed.{group-refused, group-replayed}
use Rattle.serve_calls.proofs.server.Server.replay_group.Goals as goal

pub returns-in-Ok-clause-made : goal.returns-in-Ok-clause-made
returns-in-Ok-clause-made g c =
    group-replayed g.B.LendsSession.is_session c.args.self.now c.edit_group_read.new.self c.args.edits.items c.edit_group_read.result
    c.why_group_unmade.result c.why_group_unmade.ensures.ok
    (subst (λ (edits : List Edit). MakesStep g.B.LendsSession.is_session c.args.self.now edits c.edit_group_read.result c.edit_group_read.new.self)
    c.in-Ok.ensures.ok.0 c.edit_group_read.ensures.makes)

pub returns-in-Ok-clause-refused : goal.returns-in-Ok-clause-refused
returns-in-Ok-clause-refused g c = λ so. inr
    (group-refused g.B.LendsSession.is_session c.args.self.now c.edit_group_read.new.self c.args.edits.items c.edit_group_read.result
    c.why_group_unmade.result c.why_group_unmade.ensures.value
    (subst (λ (edits : List Edit). MakesStep g.B.LendsSession.is_session c.args.self.now edits c.edit_group_read.result c.edit_group_read.new.self)
    c.in-Ok.ensures.ok.0 c.edit_group_read.ensures.makes) so)
