use Rattle.std.proofs.Common.{◌≡◌, ◌↔◌, ◌+◌, ◌<◌, ℕ, List, IsTrue, length, subst, sym, refl, arith}
use Rattle.std.proofs.lemmas.List.{get_or_read_under}
use Rattle.unit_outcomes.specs.InDoubt.{IsDoubt}
use Rattle.stream_session.specs.Altered.{IsAltered}
use Rattle.stream_session.specs.Doubting.{seen_in}
use Rattle.serve_answers.specs.declared.unit_answers.UnitFlags.{UnitFlags}
use Rattle.serve_calls.specs.Answering.{AreToldFrom}
use Rattle.serve_calls.proofs.Pages.{told_more, told_none}
use Rattle.serve_calls.proofs.questions.flags_of_all.Goals as goal

pub loop-at-init : goal.loop-at-init
loop-at-init c = λ from doubts.
    let machine = c.args.session.now in
    let ids = c.args.ids.now in
    subst (λ (told : List UnitFlags). AreToldFrom machine from 0 ids told) (sym c.in_ok-told.ensures.items) (told_none machine from ids)

pub loop-at-preserved : goal.loop-at-preserved
loop-at-preserved c = λ from doubts.
    let machine = c.args.session.now in
    let ids = c.args.ids.now in
    let at = c.loop-at.at in
    let here : at < length ids = c.loop-at-test.true in
    let one : UnitFlags = record { doubt = c.index-doubts-at.result; altered = c.is_altered.result } in
    subst (λ (told : List UnitFlags). AreToldFrom machine from (at + 1) ids told) (sym c.in_ok-push.ensures.items)
    (told_more machine from at ids c.loop-at.told.items one (c.loop-at.invariant from doubts) (record {
      doubt = subst (IsDoubt (seen_in machine.register.stream) (from + at)) (sym c.index-doubts-at.is)
          (doubts.each at c.index-doubts-at.result here);
      altered = subst (λ (id : ℕ). IsTrue c.is_altered.result ↔ IsAltered machine id)
          (get_or_read_under ids at (length ids) c.index-ids-at.result 0 c.index-ids-at.is here refl) c.is_altered.ensures;
    }))

pub returns : goal.returns
returns c = λ from doubts.
    let all : c.loop-at.at ≡ length c.args.ids.now = omega (arith, c.loop-at-test.false, c.loop-at.auto.at-end) in
    subst (λ (count : ℕ). AreToldFrom c.args.session.now from count c.args.ids.now c.loop-at.told.items) all
    (c.loop-at.invariant from doubts)
