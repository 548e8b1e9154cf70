use Rattle.std.proofs.Common.{◌≡◌, sym, ap, ◌∙◌, subst, List, Option, ℕ, Some, Contains, inl, inr}
use Rattle.std.proofs.lemmas.Result.{on_ok_weaker}
use Rattle.unit_outcomes.specs.declared.outcome.Outcome.{Outcome}
use Rattle.decode_jobs.specs.Keys.{named_by_all}
use Rattle.picture_keys.specs.Known.{key_of_outcome}
use Rattle.held_pictures.specs.Held.{AreWanted}
use Rattle.held_pictures.proofs.Wanting.{named_wanted, requests_in}
use Rattle.held_pictures.proofs.key_slots.naming.want_named.Goals as goal

pub returns-clause-only : goal.returns-clause-only
returns-clause-only g c =
    let plan = c.in-Plan-Some.plan in
    let units_are : c.deref.result.now ≡ named_by_all plan.requests =
    c.deref.ensures.value ∙ (c.in_ok-units.ensures ∙ ap named_by_all c.as_slice.ensures) in
    on_ok_weaker c.want_all.result
    (λ only id is. elim (only id is) [
      | inl was ↦ inl was
      | inr among ↦ inr (plan, c.in-Plan-Some.is-0, subst (λ (units : List (Option ℕ)). Contains units (Some id)) units_are among)
    ])
    c.want_all.ensures.only

pub returns-clause-all : goal.returns-clause-all
returns-clause-all g c =
    let units_are : c.deref.result.now ≡ named_by_all (requests_in c.args.outcome.now) =
    c.deref.ensures.value ∙ (c.in_ok-units.ensures ∙ ap named_by_all (c.as_slice.ensures ∙ sym (ap requests_in c.in-Plan-Some.is-0))) in
    on_ok_weaker c.want_all.result
    (λ all known plan id own tree_is outcome_is listed known_is waits.
    named_wanted c.args.keys.now c.args.key_slots.now c.args.key c.in-Plan-Some.node.now c.in-Plan-Some.ensures known plan
    (tree_is ∙ ap (key_of_outcome known) outcome_is) c.want_all.new.wanted.items
    (subst (λ (entries : List (Option ℕ)). AreWanted c.args.key_slots.now (named_by_all plan.requests) entries c.want_all.new.wanted.items)
    c.entries.ensures
    (subst (λ (units : List (Option ℕ)). AreWanted c.args.key_slots.now units c.entries.result.now c.want_all.new.wanted.items)
    (units_are ∙ ap (λ (outcome : Outcome). named_by_all (requests_in outcome)) outcome_is) all))
    id own known_is waits listed)
    c.want_all.ensures.all
