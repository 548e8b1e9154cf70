-- Whether an id is that of a unit that is named.
use Rattle.std.proofs.Common.{◌≡◌, ℕ, ◌<◌, ◌≤◌, List, Option, None, Some, slice_get, ◌⊎◌, inl, inr, zero, suc, subst, arith}
use Rattle.std.specs.Option.{option_map}
use Rattle.std.proofs.lemmas.Bool.{both_ways, cases_Bool, cases_eq, cases_lt}
use Rattle.std.proofs.lemmas.Option.{same_Some}
use Rattle.unit_outcomes.specs.SeenUnits.{HasId, IsIdrAt, SeenUnit, seen_idr}
use Rattle.unit_outcomes.specs.Entries.{Lists}
use Rattle.unit_outcomes.specs.InDoubt.{Names}

-- a number is there, or it isn't
some_or_not : (found : Option ℕ) (id : ℕ) → (found ≡ Some id) ⊎ (found ≡ Some id → ⊥)
some_or_not None id = inr (λ is. cc)
some_or_not (Some other) id = elim (cases_eq other id) [
  | inl same ↦ inl cc
  | inr differ ↦ inr (λ is. differ (same_Some other id is))
]

module _ (units : List SeenUnit) where
  -- a valid IDR picture stands behind a place up to another one, or none does
  abbrev IdrWithin : ℕ → ℕ → Type 0
  IdrWithin from to = (place : ℕ) × (from < place) × (place ≤ to) × IsIdrAt units place

  idr_or_not : (from to : ℕ) → IdrWithin from to ⊎ ((place : ℕ) → from < place → place ≤ to → IsIdrAt units place → ⊥)
  idr_or_not from zero = inr (λ place after within idr. absurd (omega (arith, after, within)))
  idr_or_not from (suc to) = elim (idr_or_not from to) [
    | inl found ↦ inl (found.0, found.1, omega (arith, found.2), found.3)
    | inr none ↦ elim (cases_lt from (suc to)) [
      | inl after ↦ elim (cases_Bool (seen_idr (slice_get units (suc to)))) [
        | inl is ↦ inl (suc to, after, omega arith, is)
        | inr fails ↦ inr (λ place behind within idr. elim (cases_lt place (suc to)) [
          | inl below ↦ none place behind (omega (arith, below)) idr
          | inr not ↦
              let same : place ≡ suc to = omega (arith, within, not) in
              both_ways (seen_idr (slice_get units (suc to))) fails (subst (IsIdrAt units) same idr)
        ])
      ]
      | inr before ↦ inr (λ place behind within idr. absurd (omega (arith, before, behind, within)))
    ]
  ]

  module _ (at id : ℕ) (lists : Lists units at (Some id)) where
    -- of the units below a place one is named, or none is
    below_or_not : (n : ℕ) → n ≤ at → ((other : ℕ) × Names units at other id) ⊎ ((other : ℕ) → other < n → Names units at other id → ⊥)
    below_or_not zero within = inr (λ other below named. absurd (omega (arith, below)))
    below_or_not (suc n) within = elim (below_or_not n (omega (arith, within))) [
      | inl found ↦ inl found
      | inr none ↦ elim (some_or_not (option_map (λ unit. unit.id) (slice_get units n)) id) [
        | inl has ↦ elim (idr_or_not n at) [
          | inl idr ↦ inr (λ other below named. elim (cases_lt other n) [
            | inl less ↦ none other less named
            | inr not ↦
                let same : other ≡ n = omega (arith, below, not) in
                named.no_idr idr.0 (omega (arith, same, idr.1)) idr.2 idr.3
          ])
          | inr open_up ↦ inl (n, record { listed = lists; has_id = has; before = omega (arith, within); no_idr = open_up })
        ]
        | inr differs ↦ inr (λ other below named. elim (cases_lt other n) [
          | inl less ↦ none other less named
          | inr not ↦
              let same : other ≡ n = omega (arith, below, not) in
              differs (subst (λ place. HasId units place id) same named.has_id)
        ])
      ]
    ]

    -- an entry names a unit, or none
    pub names_or_not : ((other : ℕ) × Names units at other id) ⊎ ((other : ℕ) → Names units at other id → ⊥)
    names_or_not = elim (below_or_not at (omega arith)) [
      | inl found ↦ inl found
      | inr none ↦ inr (λ other named. none other named.before named)
    ]
