use Rattle.std.proofs.Common.{inl, inr, refl}
use Rattle.serve_calls.proofs.Recorded.{none-read}
use Rattle.serve_calls.proofs.server.Server.load.Goals as goal

pub returns-in-Ok-clause-answers : goal.returns-in-Ok-clause-answers
returns-in-Ok-clause-answers g c = inl (
  c.in-Ok.text,
  record c.args.self.now { source = c.text_of.new.source },
  c.in-Ok.ensures.ok,
  (refl, refl, refl, c.in-Ok.ensures.kept),
  c.load_text.ensures.loads,
)

pub returns-in-Err-clause-recorded : goal.returns-in-Err-clause-recorded
returns-in-Err-clause-recorded g c = inr (
  refl,
  none-read c.args.loaded c.in-Err.failure c.in-Err.ensures.err,
  λ steps is. is,
)
