use Rattle.serve_calls.proofs.Altered.{none_altered}
use Rattle.serve_calls.proofs.questions.is_altered.Goals as goal

pub returns-in-Some : goal.returns-in-Some
returns-in-Some c = c.in-Some.ensures.2

pub returns-in-None : goal.returns-in-None
returns-in-None c = (
  (λ wrong. cc),
  (λ altered. absurd (none_altered c.args.session.now c.args.id c.in-None.ensures altered)),
)
