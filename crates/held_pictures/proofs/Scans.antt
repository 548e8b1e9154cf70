-- How a scan for needed units goes on.
use Rattle.std.proofs.Common.{◌≡◌, sym, subst, ℕ, ◌+◌, ◌<◌, ◌≤◌, List, [], ◌∷◌, ◌++◌, Contains, ◌↔◌, ◌⊎◌, inl, inr, arith}
use Rattle.std.proofs.lemmas.List.Elements.{Contains-append_left, Contains-push, Contains-push_cases}
use Rattle.unit_outcomes.specs.declared.outcome.Outcome.{Outcome}
use Rattle.held_pictures.proofs.Members.{nowhere}
use Rattle.held_pictures.specs.Needed.{IsNeeded, IsValid, Lists, Names}
use Rattle.held_pictures.specs.Needed.IsNeeded.{itself, named}
use Rattle.held_pictures.specs.Scanned.{IsScanned}
use Rattle.held_pictures.proofs.Lists.{falling_push}

below_or : (a b : ℕ) → a < b + 1 → (a ≡ b) ⊎ (a < b)
below_or a b below = grind arith

module _ (units : List (ℕ × Outcome)) (Waits : ℕ → Type 0) (target : ℕ) where
  -- the target itself is found
  pub scan_begins : (wanted needed : List ℕ) → Waits target → needed ≡ target ∷ []
      → ((id : ℕ) → Contains wanted id → Lists units target id)
      → ((other : ℕ) → (names : Names units target other) → Waits other → Contains wanted names.id)
      → IsScanned units Waits target target wanted needed
  scan_begins wanted needed waits found only all =
      subst (IsScanned units Waits target target wanted) (sym found) (record {
        begun = Contains-push [] target;
        needs = λ place is. subst (IsNeeded units Waits target) (one place is) (itself waits);
        above = λ place is. let same = one place is in omega (arith, same);
        falling = (λ other is. absurd (nowhere other is), tt);
        listed = λ id is. (target, Contains-push [] target, only id is, λ other from below valid. absurd (omega (arith, from, below)));
        closed = λ place other is. closed place other (one place is);
      })
    where
      one : (place : ℕ) → Contains (target ∷ []) place → target ≡ place
      one place is = elim (Contains-push_cases [] target place is) [
        | inl there ↦ absurd (nowhere place there)
        | inr same ↦ same
      ]

      closed : (place other : ℕ) → target ≡ place → (names : Names units place other) → Waits other
          → Contains (target ∷ []) other ⊎ ((other < target) × Contains wanted names.id)
      closed place other same =
          subst (λ p. (names : Names units p other) → Waits other
          → Contains (target ∷ []) other ⊎ ((other < target) × Contains wanted names.id)) same
          (λ names waits. inr (names.before, all other names waits))

  module _ (at : ℕ) (wanted needed : List ℕ) (scanned : IsScanned units Waits target (at + 1) wanted needed) where
    -- a place above which all were gone over is below them
    below_found : (place : ℕ) → Contains needed place → at < place
    below_found place is = let above = scanned.above place is in omega (arith, above)

    -- the unit at the place isn't wanted
    pub scan_passes : ((id : ℕ) → IsValid units at id → Contains wanted id → ⊥)
        → IsScanned units Waits target at wanted needed
    scan_passes not = record {
      begun = scanned.begun;
      needs = scanned.needs;
      above = λ place is. let below = below_found place is in omega (arith, below);
      falling = scanned.falling;
      listed = λ id is.
          let was = scanned.listed id is in
          (was.0, was.1, was.2, λ other from below valid. none id is was.0 was.3 other from below valid);
      closed = λ place other is names waits. elim (scanned.closed place other is names waits) [
        | inl there ↦ inl there
        | inr below ↦ elim (below_or other at below.0) [
          | inl same ↦
              absurd (not names.id (subst (λ p. IsValid units p names.id) same names.valid) below.1)
          | inr less ↦ inr (less, below.1)
        ]
      ];
    }
      where
        none : (id : ℕ) → Contains wanted id → (place : ℕ)
            → ((other : ℕ) → at + 1 ≤ other → other < place → IsValid units other id → ⊥)
            → (other : ℕ) → at ≤ other → other < place → IsValid units other id → ⊥
        none id is place was other from below valid =
            elim (below_or at other (omega (arith, from))) [
              | inl same ↦ not id (subst (λ p. IsValid units p id) (sym same) valid) is
              | inr less ↦ was other (omega (arith, less)) below valid
            ]

    -- the unit at the place is wanted, and its id is taken out
    module _ (id : ℕ) (valid : IsValid units at id) (only_id : (other : ℕ) → IsValid units at other → other ≡ id)
        (among : Contains wanted id) (left : List ℕ)
        (forgot : (other : ℕ) → Contains left other ↔ (Contains wanted other × (other ≡ id → ⊥))) where
      -- an id that is wanted still was met nowhere
      unmet : (other : ℕ) → Contains left other → (place : ℕ)
          → ((p : ℕ) → at + 1 ≤ p → p < place → IsValid units p other → ⊥)
          → (p : ℕ) → at ≤ p → p < place → IsValid units p other → ⊥
      unmet other is place was p from below there =
          elim (below_or at p (omega (arith, from))) [
            | inl same ↦ ((forgot other).0 is).1 (only_id other (subst (λ q. IsValid units q other) (sym same) there))
            | inr less ↦ was p (omega (arith, less)) below there
          ]

      -- what a needed unit names further down has another id
      other_id : (place other : ℕ) → Contains needed place → (names : Names units place other) → other < at
          → Contains wanted names.id → Contains left names.id
      other_id place other is names less wants =
          (forgot names.id).1 (
            wants,
            λ same. names.last at less (below_found place is) (subst (IsValid units at) (sym same) valid),
          )

      -- its picture is held
      pub scan_forgets : (Waits at → ⊥) → IsScanned units Waits target at left needed
      scan_forgets not = record {
        begun = scanned.begun;
        needs = scanned.needs;
        above = λ place is. let below = below_found place is in omega (arith, below);
        falling = scanned.falling;
        listed = λ other is.
            let was = scanned.listed other ((forgot other).0 is).0 in
            (was.0, was.1, was.2, unmet other is was.0 was.3);
        closed = λ place other is names waits. elim (scanned.closed place other is names waits) [
          | inl there ↦ inl there
          | inr below ↦ elim (below_or other at below.0) [
            | inl same ↦ absurd (not (subst Waits same waits))
            | inr less ↦ inr (less, other_id place other is names less below.1)
          ]
        ];
      }

      -- it waits: its place is found, and what it names is wanted
      module _ (waits_there : Waits at) (more found : List ℕ) (found_is : found ≡ needed ++ at ∷ [])
          (stay : (other : ℕ) → Contains left other → Contains more other)
          (only : (other : ℕ) → Contains more other → Contains left other ⊎ Lists units at other)
          (all : (other : ℕ) → (names : Names units at other) → Waits other → Contains more names.id) where
        -- it is needed
        is_needed : IsNeeded units Waits target at
        is_needed =
            let was = scanned.listed id among in
            named was.0 at (scanned.needs was.0 was.1)
            (record {
              id = id;
              listed = was.2;
              before = below_found was.0 was.1;
              valid = valid;
              last = λ place above below is. was.3 place (omega (arith, above)) below is;
            })
            waits_there

        old_found : (place : ℕ) → Contains needed place → Contains (needed ++ at ∷ []) place
        old_found place is = Contains-append_left needed (at ∷ []) place is

        cases : {P : ℕ → Type 0} (place : ℕ) → Contains (needed ++ at ∷ []) place
            → ((p : ℕ) → Contains needed p → P p) → P at → P place
        cases {P} place is old new = elim (Contains-push_cases needed at place is) [
          | inl there ↦ old place there
          | inr same ↦ subst P same new
        ]

        still : (other : ℕ) → Contains more other → Contains left other ⊎ Lists units at other
            → (place : ℕ) × Contains (needed ++ at ∷ []) place × Lists units place other
            × ((p : ℕ) → at ≤ p → p < place → IsValid units p other → ⊥)
        still other is (inl there) =
            let was = scanned.listed other ((forgot other).0 there).0 in
            (was.0, old_found was.0 was.1, was.2, unmet other there was.0 was.3)
        still other is (inr lists) =
            (at, Contains-push needed at, lists, λ p from below valid. absurd (omega (arith, from, below)))

        pub scan_finds : IsScanned units Waits target at more found
        scan_finds =
            subst (IsScanned units Waits target at more) (sym found_is) (record {
              begun = old_found target scanned.begun;
              needs = λ place is. cases {P = IsNeeded units Waits target} place is scanned.needs is_needed;
              above = λ place is.
                  cases {P = λ p. at ≤ p} place is
                  (λ p there. let below = below_found p there in omega (arith, below)) (omega arith);
              falling = falling_push needed at scanned.falling below_found;
              listed = λ other is. still other is (only other is);
              closed = λ place other is.
                  cases {P = λ p. (names : Names units p other) → Waits other
                  → Contains (needed ++ at ∷ []) other ⊎ ((other < at) × Contains more names.id)} place is
                  (λ p there names waits. old_closed p other there names waits)
                  (λ names waits. inr (names.before, all other names waits));
            })
          where
            old_closed : (place other : ℕ) → Contains needed place → (names : Names units place other) → Waits other
                → Contains (needed ++ at ∷ []) other ⊎ ((other < at) × Contains more names.id)
            old_closed place other is names waits = elim (scanned.closed place other is names waits) [
              | inl there ↦ inl (old_found other there)
              | inr below ↦ elim (below_or other at below.0) [
                | inl same ↦ inl (subst (Contains (needed ++ at ∷ [])) (sym same) (Contains-push needed at))
                | inr less ↦ inr (less, stay names.id (other_id place other is names less below.1))
              ]
            ]
