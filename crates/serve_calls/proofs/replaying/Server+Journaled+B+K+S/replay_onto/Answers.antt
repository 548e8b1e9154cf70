use Rattle.std.proofs.Common.{List, Err, ap, inl, inr, refl, subst}
use Rattle.session_journal.specs.declared.steps.step.RecordedStep.{RecordedStep}
use Rattle.serve_calls.specs.declared.replaying.Unreplayed.{Unreplayed}
use Rattle.serve_calls.proofs.Replayed.{left-none}
use Rattle.serve_calls.proofs.replaying.Server+Journaled+B+K+S.replay_onto.Goals as goal

pub returns-in-Ok : goal.returns-in-Ok
returns-in-Ok g c = (c.replay_all.new.self, c.in_ok-replay_all.ensures, inl (c.in-Ok.ensures.made, refl))

pub returns-in-Err-Refused : goal.returns-in-Err-Refused
returns-in-Err-Refused g c = (
  c.replay_all.new.self,
  c.in_ok-replay_all.ensures,
  inr (
    c.in-Err-Refused.ensures.refused (ap (λ (why : Unreplayed). Err why) c.in-Err-Refused.field-0-is),
    λ steps ends. subst (λ (left : List RecordedStep). g.K.Records.stands c.shorten.new.self left) (left-none steps c.args.last)
        (c.shorten.ensures steps c.args.last ends),
  ),
)
