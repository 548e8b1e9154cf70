-- The lines of units, one after the other.
use Rattle.std.proofs.Common.{◌≡◌, ◌∙◌, ℕ, List, [], ◌∷◌, length, refl, ap, suc}
use Rattle.std.proofs.lemmas.List.FromFn.{length-map-range_with_len}
use Rattle.request_core.specs.States.{FoldState, no_units}
use Rattle.request_core.specs.Fold.{fold_step, outcomes_from, outcomes_of}
use Rattle.output_order.specs.OutputOrder.{position_at, positions_of}

-- units under their ids
abbrev Stream : Type 0
Stream = List (ℕ × List (List ℕ))

-- each unit has an outcome
pub length-outcomes_from : (state : FoldState) (units : Stream) → length (outcomes_from state units) ≡ length units
length-outcomes_from state [] = refl
length-outcomes_from state (unit ∷ units) = ap (λ n. suc n) (length-outcomes_from (fold_step state unit.0 unit.1).0 units)

pub length-outcomes_of : (stream : Stream) → length (outcomes_of stream) ≡ length stream
length-outcomes_of stream = length-outcomes_from no_units stream

-- and a position, or nothing
pub length-positions_of : (stream : Stream) → length (positions_of (outcomes_of stream)) ≡ length stream
length-positions_of stream =
    length-map-range_with_len (position_at (outcomes_of stream)) 0 (length (outcomes_of stream)) ∙ length-outcomes_of stream
