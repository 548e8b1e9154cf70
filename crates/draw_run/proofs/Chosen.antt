-- The units that a drawing shows, with one unit more.
use Rattle.std.proofs.Common.{◌≡◌, ◌≢◌, ◌∙◌, ◌<◌, ◌≤◌, ◌⊎◌, ⊎_elim, ℕ, ◌+◌, zero, suc, List, [], ◌∷◌, ◌++◌, length, take, drop, refl, sym, ap, arith, length-append}
use Rattle.std.proofs.lemmas.List.{drop-append-le, length-take, take-append-le, take_all}
use Rattle.std.proofs.Math.ListN.{drop_of_length-le}
use Rattle.unit_outcomes.specs.declared.outcome.Outcome.{Outcome}
use Rattle.draw_run.specs.Chosen.{chosen, kept_from}
use Rattle.draw_run.specs.declared.drawn_fold.KeptUnit.{KeptUnit}

-- one more has the next id
pub kept_from-push : (id : ℕ) (outcomes : List Outcome) (outcome : Outcome)
    → kept_from id (outcomes ++ outcome ∷ []) ≡ kept_from id outcomes ++ record { id = id + length outcomes; outcome = outcome } ∷ []
kept_from-push id [] outcome = ap (λ (n : ℕ). record { id = n; outcome = outcome } ∷ []) (omega arith)
kept_from-push id (first ∷ outcomes) outcome =
    let rest = kept_from-push (id + 1) outcomes outcome in
    let next : (id + 1) + length outcomes ≡ id + length (first ∷ outcomes) = omega arith in
    ap (λ l. record { id = id; outcome = first } ∷ l) (rw next at rest)

pub length-kept_from : (id : ℕ) (outcomes : List Outcome) → length (kept_from id outcomes) ≡ length outcomes
length-kept_from id [] = refl
length-kept_from id (outcome ∷ outcomes) = ap (λ n. suc n) (length-kept_from (id + 1) outcomes)

-- it comes before all that are shown
chosen-early : (from units : ℕ) (all : List KeptUnit) (unit : KeptUnit) → length all + 1 < from
    → chosen from units (all ++ unit ∷ []) ≡ chosen from units all
chosen-early zero units all unit early = refl
chosen-early (suc before) units all unit early =
    ap (take units)
    (drop_of_length-le (all ++ unit ∷ []) (omega (arith, early, length-append all (unit ∷ [])))
    ∙ sym (drop_of_length-le all (omega (arith, early))))

-- none is shown
chosen-none : (from units : ℕ) (all : List KeptUnit) (unit : KeptUnit) → from ≡ 0
    → chosen from units (all ++ unit ∷ []) ≡ chosen from units all
chosen-none zero units all unit none = refl
chosen-none (suc before) units all unit none = absurd (omega (arith, none))

-- as many are shown as may be
chosen-full : (from units : ℕ) (all : List KeptUnit) (unit : KeptUnit) → from ≤ length all + 1
    → units ≤ length (chosen from units all) → chosen from units (all ++ unit ∷ []) ≡ chosen from units all
chosen-full zero units all unit late many = refl
chosen-full (suc before) units all unit late many =
    ap (take units) (drop-append-le before all (unit ∷ []) (omega (arith, late)))
    ∙ take-append-le units (drop before all) (unit ∷ []) (omega (arith, many, length-take units (drop before all)))

-- it isn't shown
pub chosen-stays : (from units count : ℕ) (all : List KeptUnit) (unit : KeptUnit) → unit.id ≡ length all + 1
    → count ≡ length (chosen from units all)
    → (from ≡ 0) ⊎ ((unit.id < from) ⊎ ((from ≤ unit.id) × (units ≤ count)))
    → chosen from units all ≡ chosen from units (all ++ unit ∷ [])
chosen-stays from units count all unit id_is count_is why =
    ⊎_elim (λ none. sym (chosen-none from units all unit none))
    (λ others. ⊎_elim (λ early. sym (chosen-early from units all unit (omega (arith, early, id_is))))
    (λ full. sym (chosen-full from units all unit (omega (arith, full.0, id_is)) (omega (arith, full.1, count_is))))
    others) why

-- it is shown too
pub chosen-more : (from units : ℕ) (all : List KeptUnit) (unit : KeptUnit) → from ≢ 0 → from ≤ length all + 1
    → length (chosen from units all) < units → chosen from units all ++ unit ∷ [] ≡ chosen from units (all ++ unit ∷ [])
chosen-more zero units all unit some late few = absurd (some refl)
chosen-more (suc before) units all unit some late few =
    let shown = drop before all in
    let capacity : length shown < units = omega (arith, few, length-take units shown) in
    ap (λ l. l ++ unit ∷ []) (take_all units shown (omega (arith, capacity)))
    ∙ sym (take_all units (shown ++ unit ∷ []) (omega (arith, capacity, length-append shown (unit ∷ []))))
    ∙ ap (take units) (sym (drop-append-le before all (unit ∷ []) (omega (arith, late))))

-- of no unit none is shown
pub chosen-nothing : (from units : ℕ) → [] ≡ chosen from units []
chosen-nothing zero units = refl
chosen-nothing (suc before) units =
    sym (ap (take units) (drop_of_length-le [] (omega arith)) ∙ take_all units [] (omega arith))
