-- The position at a place among all positions.
use Rattle.std.proofs.Common.{◌≡◌, ℕ, ◌<◌, Option, Some, List, length, slice_get, get_or, refl, sym, ◌∙◌, arith}
use Rattle.std.proofs.lemmas.List.FromFn.{get_or-map-range_with_len, length-map-range_with_len}
use Rattle.std.proofs.lemmas.Option.{slice_get_read}
use Rattle.unit_outcomes.specs.declared.outcome.Outcome.{Outcome}
use Rattle.output_order.specs.OutputOrder.{position_at, positions_of}

pub position_read : (outcomes : List Outcome) (place : ℕ) (position : Option ℕ) → place < length outcomes → position ≡ position_at outcomes place
    → slice_get (positions_of outcomes) place ≡ Some position
position_read outcomes place position within is =
    let long : length (positions_of outcomes) ≡ length outcomes = length-map-range_with_len (position_at outcomes) 0 (length outcomes) in
    let read : get_or (positions_of outcomes) place position ≡ position_at outcomes place =
    get_or-map-range_with_len (position_at outcomes) 0 (length outcomes) place place position within (omega arith) in
    slice_get_read (positions_of outcomes) (length (positions_of outcomes)) place position refl (omega (arith, long)) (is ∙ sym read)
