use Rattle.std.proofs.Common.{◌≡◌, ◌∙◌, ap, refl, subst}
use Rattle.stand_in_device.specs.Inputs.{InputValue}
use Rattle.stand_in_device.specs.Jobs.{JobValue}
use Rattle.stand_in_session.specs.Jobs.{AnswersLand}
use Rattle.stream_session.specs.Taken.{taken_of}
use Rattle.stream_session.proofs.ByNumber.{none_taken, taken_has}
use Rattle.stand_in_session.proofs.jobs.land.Goals as goal

pub returns-in_default-clause-ok : goal.returns-in_default-clause-ok
returns-in_default-clause-ok c =
    (none_taken (taken_of c.args.session.now) c.args.number c.in_default.ensures.value, refl)

pub returns-clause-ok : goal.returns-clause-ok
returns-clause-ok c =
    let old = c.args.session.now in
    let job : JobValue = record { number = c.args.number; input = c.in-Some.input.now } in
    let same : c.in_ok-finished.finished ≡ job =
    c.in_ok-finished.ensures ∙ (c.new-job.ensures ∙ ap (λ (i : InputValue). record { number = c.args.number; input = i }) c.in_ok-copy.ensures) in (
      job,
      (refl, taken_has (taken_of old) c.args.number c.in-Some.input.now c.in-Some.ensures.value),
      subst (λ (other : JobValue). AnswersLand old other c.land.result c.land.new.self) same c.land.ensures,
    )
