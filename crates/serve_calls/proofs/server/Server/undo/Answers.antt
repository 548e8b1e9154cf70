use Rattle.std.proofs.Common.{Result, inl, subst, sym}
use Rattle.session_journal.specs.declared.steps.step.RecordedStep.TheVariants.{Edits}
use Rattle.serve_requests.specs.declared.failure.Failure.{Failure}
use Rattle.serve_answers.specs.declared.answer.Answer.{Answer}
use Rattle.serve_calls.specs.Recording.{RecordsSome}
use Rattle.serve_calls.specs.RecordingCalls.{AreUndoing}
use Rattle.serve_calls.proofs.Recorded.{group-recorded}
use Rattle.serve_calls.proofs.server.Server.undo.Goals as goal

pub returns-in-Ok-clause-answers : goal.returns-in-Ok-clause-answers
returns-in-Ok-clause-answers g c =
    inl (c.in-Ok.edits.items, c.in-Ok.units, c.take_back.result, c.in-Ok.ensures.some, c.in-Ok.ensures.ok, c.take_back.ensures.goes, c.of_group_made.ensures)

pub returns-in-Ok-clause-recorded : goal.returns-in-Ok-clause-recorded
returns-in-Ok-clause-recorded g c =
    let before = g.B.Backend.records c.args.self.now.backend in
    let after = g.B.Backend.records c.take_back.new.self.backend in
    subst (λ (result : Result Answer Failure). RecordsSome before (AreUndoing c.args.self.now.history) result after) (sym c.of_group_made.ensures)
    (inl (
      c.in-Ok.edits.items,
      (c.in-Ok.units, c.in-Ok.ensures.ok),
      group-recorded before after (Edits c.in-Ok.edits.items) c.take_back.result c.take_back.ensures.recorded,
    ))
