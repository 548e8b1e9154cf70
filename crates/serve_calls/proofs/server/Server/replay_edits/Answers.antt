use Rattle.std.proofs.Common.{◌≡◌, ◌∙◌, List, Err, OnOk, subst, sym}
use Rattle.stream_edits.specs.declared.edits.Edit.{Edit}
use Rattle.serve_calls.specs.declared.replaying.Unreplayed.TheVariants as unreplayed
use Rattle.serve_calls.specs.Replaying.{RefusesEdits, ReplaysEdits}
use Rattle.serve_calls.proofs.server.Server.replay_edits.Goals as goal

pub returns-in-Some-clause-made : goal.returns-in-Some-clause-made
returns-in-Some-clause-made g c = subst (λ (edits : List Edit). OnOk c.replay_edit.result
    (ReplaysEdits g.B.LendsSession.is_session c.args.self.now edits c.replay_edit.new.self))
    (sym (sym c.as_slice.ensures.value ∙ c.in-Some.ensures)) c.replay_edit.ensures.made

pub returns-in-Some-clause-refused : goal.returns-in-Some-clause-refused
returns-in-Some-clause-refused g c = subst (λ (edits : List Edit). c.replay_edit.result ≡ Err unreplayed.Refused
    → RefusesEdits g.B.LendsSession.is_session c.args.self.now edits c.replay_edit.new.self)
    (sym (sym c.as_slice.ensures.value ∙ c.in-Some.ensures)) c.replay_edit.ensures.refused
