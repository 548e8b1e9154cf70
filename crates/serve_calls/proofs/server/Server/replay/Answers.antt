use Rattle.std.proofs.Common.{◌≡◌, List, Err, OnOk, subst, sym}
use Rattle.stream_edits.specs.declared.edits.Edit.{Edit}
use Rattle.session_journal.specs.declared.steps.step.RecordedStep.{RecordedStep}
use Rattle.session_journal.specs.declared.steps.step.RecordedStep.TheVariants.{Load}
use Rattle.serve_calls.specs.declared.replaying.Unreplayed.TheVariants as unreplayed
use Rattle.serve_calls.specs.Replaying.{RefusesEdits, RefusesOne, ReplaysEdits, ReplaysOne}
use Rattle.serve_calls.proofs.server.Server.replay.Goals as goal

pub returns-in-Edits-clause-made : goal.returns-in-Edits-clause-made
returns-in-Edits-clause-made g c =
    let is = g.B.LendsSession.is_session in
    subst (λ (step : RecordedStep). OnOk c.replay_edits.result (ReplaysOne is c.args.self.now step c.replay_edits.new.self)) (sym c.in-Edits.is)
    (subst (λ (edits : List Edit). OnOk c.replay_edits.result (ReplaysEdits is c.args.self.now edits c.replay_edits.new.self))
    c.into_edits.ensures c.replay_edits.ensures.made)

pub returns-in-Load-clause-made : goal.returns-in-Load-clause-made
returns-in-Load-clause-made g c =
    let is = g.B.LendsSession.is_session in
    subst (λ (step : RecordedStep). OnOk c.replay_load.result (ReplaysOne is c.args.self.now step c.replay_load.new.self)) (sym c.in-Load.is)
    (subst (λ (edits : List Edit). OnOk c.replay_load.result (ReplaysOne is c.args.self.now (Load edits) c.replay_load.new.self))
    c.into_edits-in-Load.ensures c.replay_load.ensures.made)

pub returns-in-Edits-clause-refused : goal.returns-in-Edits-clause-refused
returns-in-Edits-clause-refused g c =
    let is = g.B.LendsSession.is_session in
    subst (λ (step : RecordedStep). c.replay_edits.result ≡ Err unreplayed.Refused → RefusesOne is c.args.self.now step c.replay_edits.new.self)
    (sym c.in-Edits.is)
    (subst (λ (edits : List Edit). c.replay_edits.result ≡ Err unreplayed.Refused → RefusesEdits is c.args.self.now edits c.replay_edits.new.self)
    c.into_edits.ensures c.replay_edits.ensures.refused)

pub returns-in-Snapshot-clause-made : goal.returns-in-Snapshot-clause-made
returns-in-Snapshot-clause-made g c =
    let is = g.B.LendsSession.is_session in
    subst (λ (step : RecordedStep). OnOk c.begin_from.result (ReplaysOne is c.args.self.now step c.begin_from.new.self)) (sym c.in-Snapshot.is)
    c.begin_from.ensures.made
