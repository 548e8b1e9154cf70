use Rattle.std.proofs.Common.{List, Ok, ap₂, refl, subst, inl, inr}
use Rattle.serve_answers.specs.declared.answer.Answer.TheVariants.{Wanted}
use Rattle.serve_calls.specs.declared.wanted_units.WantedUnit.{WantedUnit}
use Rattle.serve_calls.specs.Sessions.{Asks}
use Rattle.serve_calls.specs.Wanting.{TellsOf}
use Rattle.serve_calls.proofs.server.Server.want_all.Goals as goal

pub returns-clause-answers : goal.returns-clause-answers
returns-clause-answers g c =
    let told = c.in_ok-told.told in
    let asks = subst (λ (units : List WantedUnit). Asks (g.B.LendsSession.is_session c.args.self.now.backend) (λ machine. TellsOf machine units told))
    c.as_slice.ensures.value c.in_ok-told.ensures in
    inr (inl (
      c.if-numbers-gt-MOST_WANTED.false,
      (
        c.in-Ok-wanted_units.units.items,
        told,
        c.in-Ok-wanted_units.ensures,
        asks,
        c.want.ensures.stays,
        ap₂ (λ ready not_now. Ok (Wanted ready not_now)) c.new.ensures c.new-2.ensures,
        c.wanted_after.ensures,
      ),
      refl,
      refl,
      refl,
    ))
