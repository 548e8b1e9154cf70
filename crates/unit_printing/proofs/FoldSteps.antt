-- The fold over units, one more at a time.
use mathlib.Core.Path.{Path}
use Rattle.std.proofs.Common.{◌≡◌, ◌∙◌, ℕ, ◌+◌, ◌<◌, List, [], ◌∷◌, ◌++◌, length, get_or, drop, ap, sym, append_assoc, refl, suc}
use Rattle.std.proofs.lemmas.List.{drop_more}
use Rattle.unit_outcomes.specs.declared.outcome.Outcome.{Outcome}
use Rattle.request_core.specs.States.{FoldState, no_units}
use Rattle.request_core.specs.Fold.{fold_step, outcomes_from, outcomes_of}
use Rattle.unit_printing.specs.StreamLines.{numbered_from}

-- the outcomes of the units from a place on
abbrev pub rest_from : FoldState → List (List (List ℕ)) → ℕ → List Outcome
rest_from state units place = outcomes_from state (numbered_from (place + 1) (drop place units))

-- the next one moves over to those that are done
pub fold-next : (all done more : List Outcome) (state after : FoldState) (outcome : Outcome) (units : List (List (List ℕ))) (place id : ℕ) (unit : List (List ℕ))
    → all ≡ done ++ rest_from state units place → place < length units → id ≡ place + 1 → unit ≡ get_or units place []
    → Path (FoldState × Outcome) (after, outcome) (fold_step state id unit) → more ≡ done ++ outcome ∷ []
    → all ≡ more ++ rest_from after units (place + 1)
fold-next all done more state after outcome units place id unit so_far here id_is unit_is pair more_is =
    let moved : done ++ rest_from state units place
    ≡ (done ++ (fold_step state (place + 1) (get_or units place [])).1 ∷ []) ++ rest_from (fold_step state (place + 1) (get_or units place [])).0 units (place + 1) =
    ap (λ rest. done ++ outcomes_from state (numbered_from (place + 1) rest)) (drop_more units place [] here) ∙ sym (append_assoc done ((fold_step state (place + 1) (get_or units place [])).1 ∷ []) (rest_from (fold_step state (place + 1) (get_or units place [])).0 units (place + 1))) in
    let step : Path (FoldState × Outcome) (after, outcome) (fold_step state (place + 1) (get_or units place [])) = rw (id_is, unit_is) at pair in
    rw (more_is, ap (λ (p : FoldState × Outcome). p.0) step, ap (λ (p : FoldState × Outcome). p.1) step) (so_far ∙ moved)

-- an outcome for each unit
length-outcomes : (state : FoldState) (id : ℕ) (units : List (List (List ℕ))) → length (outcomes_from state (numbered_from id units)) ≡ length units
length-outcomes state id [] = refl
length-outcomes state id (unit ∷ units) = ap (λ n. suc n) (length-outcomes (fold_step state id unit).0 (id + 1) units)

pub length-fold : (units : List (List (List ℕ))) → length (outcomes_of (numbered_from 1 units)) ≡ length units
length-fold units = length-outcomes no_units 1 units
