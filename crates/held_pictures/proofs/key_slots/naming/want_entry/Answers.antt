use Rattle.std.proofs.Common.{sym, ap, ◌∙◌, subst, Some, Contains, inl, inr}
use Rattle.std.proofs.lemmas.Option.{same_Some}
use Rattle.std.proofs.lemmas.Result.{on_ok_weaker}
use Rattle.held_pictures.specs.Held.{IsHeld}
use Rattle.held_pictures.proofs.key_slots.naming.want_entry.Goals as goal

pub returns-in-Some-Some-clause-only : goal.returns-in-Some-Some-clause-only
returns-in-Some-Some-clause-only g c =
    on_ok_weaker c.want.result
    (λ only other is. elim (only other is) [
      | inl was ↦ inl was
      | inr same ↦ inr (c.in-Some-Some.is-0 ∙ ap Some (sym same))
    ])
    c.want.ensures.only

pub returns-in-Some-Some-clause-all : goal.returns-in-Some-Some-clause-all
returns-in-Some-Some-clause-all g c =
    on_ok_weaker c.want.result
    (λ all id number unit_is entry_is waits.
    subst (Contains c.want.new.wanted.items) (same_Some c.in-Some-Some.id id (sym c.in-Some-Some.is-0 ∙ unit_is))
    (all (subst (λ n. IsHeld c.args.key_slots.now n → ⊥) (sym (same_Some c.in-Some-Some.key number (sym c.in-Some-Some.is-1 ∙ entry_is))) waits)))
    c.want.ensures.all
