use Rattle.std.proofs.Common.{◌<◌, length, ◌∙◌, subst, arith}
use Rattle.std.proofs.lemmas.Option.{slice_get_within}
use Rattle.stream_session.specs.Machines.{Machine}
use Rattle.stream_session.specs.Needing.{IsAnyDueFor}
use Rattle.worker_jobs.proofs.Firsts.{none_for, none_more}
use Rattle.worker_jobs.proofs.taking.take_first_of.Goals as goal

pub loop-number-preserved : goal.loop-number-preserved
loop-number-preserved g c =
    let none = none_for g.P.Decoded.IsOf c.loop-number.session c.take_for.new.self c.new.result c.in-Ok-None.field-0
    c.in-Ok-None.ensures.answers c.in-Ok-None.field-0-is in (
      none_more g.P.Decoded.IsOf c.args.session.now c.args.numbers.now c.loop-number.number-index c.new.result c.new.ensures
          c.loop-number.invariant.0
          (subst (λ (machine : Machine g.row.P.Denot). IsAnyDueFor machine c.new.result → ⊥) c.loop-number.invariant.1 none.0),
      none.1 ∙ c.loop-number.invariant.1,
    )

pub returns : goal.returns
returns g c = (
  λ at id there.
      let within : at < length c.args.numbers.now = slice_get_within c.args.numbers.now at id there in
      c.loop-number.invariant.0 at id (omega arith) there,
  c.loop-number.invariant.1,
)
