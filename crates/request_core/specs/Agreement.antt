-- Folds that agree in state, and go on over the same units.
use Rattle.std.specs.Prelude.{◌≡◌, ℕ, List, [], ◌∷◌, ◌++◌}
use Rattle.unit_outcomes.specs.declared.outcome.Outcome.{Outcome}
use Rattle.request_core.specs.States.{FoldState, no_units}
use Rattle.request_core.specs.Fold.{fold_step, outcomes_of}

-- units in order, each with its id
abbrev pub Stream : Type 0
Stream = List (ℕ × List (List ℕ))

-- the state after the units that follow a state
abbrev pub state_from : FoldState → Stream → FoldState
state_from state [] = state
state_from state (unit ∷ units) = state_from (fold_step state unit.0 unit.1).0 units

-- over further units both streams have the same outcomes and lead to the same state
abbrev pub GoOnAlike : Stream → Stream → Stream → Type 0
GoOnAlike first second further =
    (outcomes : List Outcome)
    × (outcomes_of (first ++ further) ≡ outcomes_of first ++ outcomes)
    × (outcomes_of (second ++ further) ≡ outcomes_of second ++ outcomes)
    × (state_from no_units (first ++ further) ≡ state_from no_units (second ++ further))

-- where the folds over two streams agree in state, they go on alike
abbrev pub Agreement : Type 0
Agreement = (first second : Stream) → state_from no_units first ≡ state_from no_units second
    → (further : Stream) → GoOnAlike first second further
