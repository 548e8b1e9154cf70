use Rattle.std.proofs.Common.{subst, sym, inl, inr}
use Rattle.std.specs.Prelude.{Contains}
use Rattle.std.proofs.lemmas.List.Elements.{Contains-push_cases}
use Rattle.held_pictures.proofs.key_slots.naming.want.Goals as goal

pub returns-clause-only : goal.returns-clause-only
returns-clause-only g c = λ other is.
    elim (Contains-push_cases c.args.wanted.now.items c.args.id other
    (subst (λ ids. Contains ids other) c.in_ok-push.ensures.items is)) [
      | inl before ↦ inl before
      | inr same ↦ inr (sym same)
    ]
