-- Units whose lists have no entries.
use Rattle.std.proofs.Common.{◌≡◌, sym, ◌∙◌, ap, subst, ℕ, List, [], Option, Some, Contains, All, inl, inr, arith}
use Rattle.std.proofs.lemmas.List.Elements.{All-contains}
use Rattle.std.proofs.lemmas.Option.{same_Some}
use Rattle.unit_outcomes.specs.declared.outcome.Outcome.TheVariants as outcomes
use Rattle.unit_outcomes.specs.declared.outcome.Plan.{Plan}
use Rattle.unit_outcomes.specs.SeenUnits.{SeenUnit}
use Rattle.unit_outcomes.specs.Entries.{HasNoEntries, IsPlan, Lists}
use Rattle.unit_outcomes.specs.InDoubt.{InDoubt}
use Rattle.unit_outcomes.specs.InDoubt.InDoubt.{misses, names_before_break, names_doubt}

nowhere : {X : Type 0} (x : X) → Contains [] x → ⊥
nowhere x is = omega (arith, is.1)

module _ (units : List SeenUnit) where
  -- no entry is listed at such a unit
  lists_none : (at : ℕ) (plan : Plan) (named : Option ℕ) → IsPlan units at plan → All HasNoEntries plan.requests → Lists units at named → ⊥
  lists_none at plan named is none lists =
      let same = same_Some is.0 lists.unit (sym is.1 ∙ lists.there) in
      let plans : outcomes.Plan plan ≡ outcomes.Plan lists.plan = sym is.2 ∙ ap (λ u. u.outcome) same ∙ lists.valid in
      let plan_is : plan ≡ lists.plan = cc in
      let among = subst (λ p. Contains p.requests lists.request) (sym plan_is) lists.among in
      let empty = All-contains HasNoEntries plan.requests lists.request none among in
      elim lists.entry.listed [
        | inl zero ↦ nowhere lists.entry.entry (subst (λ list. Contains list lists.entry.entry) empty.0 zero)
        | inr one ↦ nowhere lists.entry.entry (subst (λ list. Contains list lists.entry.entry) empty.1 one)
      ]

  pub no_entries_no_doubt : (at : ℕ) (plan : Plan) → IsPlan units at plan → All HasNoEntries plan.requests → InDoubt units at → ⊥
  no_entries_no_doubt at plan is none (names_doubt from other id named doubt) = lists_none from plan (Some id) is none named.listed
  no_entries_no_doubt at plan is none (names_before_break from other broken id named behind before breaks) =
      lists_none from plan (Some id) is none named.listed
  no_entries_no_doubt at plan is none (misses from broken named lists missing follows) = lists_none from plan named is none lists
