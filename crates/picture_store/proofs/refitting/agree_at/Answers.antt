use Rattle.std.proofs.Common.{◌≡◌, ◌∙◌, ◌↔◌, All, ap, sym, subst, Option, Some}
use Rattle.std.specs.Prelude.{IfOk, IsTrue, Result, Ok, Err}
use Rattle.std.specs.Option.{option_copied}
use Rattle.request_core.specs.States.{FoldState}
use Rattle.picture_keys.specs.Numbered.{number_at}
use Rattle.picture_store.specs.Needs.{AgreeAt}
use Rattle.picture_store.proofs.refitting.agree_at.Goals as goal

-- what is more than is known of a result
where_ok : {A E : Type 0} (result : Result A E) (P Q : A → Type 0) → ((a : A) → P a → Q a) → IfOk result P → IfOk result Q
where_ok (Ok a) P Q more known = more a known
where_ok (Err error) P Q more known = known

one_state : (numbers : Option FoldState) (a b : FoldState) → numbers ≡ Some a → numbers ≡ Some b → a ≡ b
one_state numbers a b first second = cc

pub returns-in-Some-clause-ok : goal.returns-in-Some-clause-ok
returns-in-Some-clause-ok c =
    let stored = sym c.get.ensures ∙ ap (λ state. option_copied state) c.in-Some.is in
    where_ok c.agree_on.result
    (λ agree. IsTrue agree
    ↔ All (λ frame. number_at c.args.before.now frame.id ≡ number_at c.args.after.now.numbers frame.id) c.frames.result.now)
    (λ agree. IsTrue agree ↔ AgreeAt c.args.states.now.states c.args.at c.args.before.now c.args.after.now.numbers)
    (λ agree same. (
      λ yes. (
        c.in-Some.state.now,
        stored,
        rw (c.frames.ensures) at same.0 yes,
      ),
      λ there.
          let one : there.0 ≡ c.in-Some.state.now = one_state _ there.0 c.in-Some.state.now there.1 stored in
          same.1 (rw (c.frames.ensures)
          (subst (λ (state : FoldState). All (λ frame. number_at c.args.before.now frame.id ≡ number_at c.args.after.now.numbers frame.id) state.marks.frames)
          one there.2)),
    ))
    c.agree_on.ensures.ok
