use Rattle.std.proofs.Common.{◌∙◌, ap, inl, subst}
use Rattle.annexb.specs.ByteStream.{joined}
use Rattle.stream_edits.specs.declared.edits.Edit.{Edit}
use Rattle.stream_edits.specs.declared.edits.Edit.TheVariants.{Insert}
use Rattle.stream_edits.specs.declared.edits.InsertionPoint.{InsertionPoint}
use Rattle.serve_calls.specs.Editing.{MakesEditIn}
use Rattle.serve_calls.proofs.server.Server.insert_last.Goals as goal

pub returns-clause-inserts : goal.returns-clause-inserts
returns-clause-inserts g c = inl (
  c.last.result,
  c.last.ensures,
  subst (λ (edit : Edit). MakesEditIn g.B.LendsSession.is_session c.args.self.now c.args.step.now edit c.edit_in.result c.edit_in.new.self c.edit_in.new.step)
      (c.in_ok-read.ensures.ok ∙ ap (λ (place : InsertionPoint). Insert place (joined c.args.unit)) c.end-place.ensures) c.edit_in.ensures.makes,
)
