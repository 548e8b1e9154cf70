use Rattle.std.proofs.Common.{List, subst}
use Rattle.stream_edits.specs.declared.edits.Edit.{Edit}
use Rattle.serve_calls.specs.Editing.{GroupsAs}
use Rattle.serve_calls.proofs.server.Server.group.Goals as goal

pub returns-clause-answers : goal.returns-clause-answers
returns-clause-answers g c = subst (λ (edits : List Edit). GroupsAs g.B.LendsSession.is_session c.args.self.now edits c.edit_group.result c.edit_group.new.self)
    c.into_items.ensures c.edit_group.ensures.answers
