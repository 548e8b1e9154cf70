use Rattle.draw_run.proofs.Keyless.{absent-unaltered}
use Rattle.draw_run.proofs.shown.is_altered.Goals as goal

pub returns-in-Some : goal.returns-in-Some
returns-in-Some c = c.in-Some.ensures.2

pub returns-in-None : goal.returns-in-None
returns-in-None c = (
  (λ wrong. cc),
  (λ altered. absurd (absent-unaltered c.args.session.now c.args.id c.in-None.ensures altered)),
)
