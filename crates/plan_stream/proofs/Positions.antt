-- Positions depend on nothing but what is kept of each unit.
use Rattle.std.proofs.Common.{◌≡◌, ◌∙◌, ℕ, ◌+◌, zero, suc, cond, List, [], ◌∷◌, length, map, take, Option, count_by, refl, ap, sym}
use Rattle.std.specs.Prelude.{option_map, option_and_then, slice_get}
use Rattle.std.specs.List.{filter_map, range_with_len}
use Rattle.std.proofs.lemmas.List.{length-map}
use Rattle.std.proofs.lemmas.List.Sums.{sum_by-cons}
use Rattle.unit_outcomes.specs.declared.outcome.Outcome.{Outcome}
use Rattle.unit_outcomes.specs.declared.outcome.Outcome.TheVariants as outcomes
use Rattle.output_order.specs.declared.positions_by_key.Key.{Key}
use Rattle.output_order.specs.OutputOrder.{begins_period, is_earlier, key_at, order_of, period_at, positions_of}
use Rattle.plan_stream.specs.Shown.{shown_of}

same_begins : (outcome : Outcome) → begins_period (shown_of outcome) ≡ begins_period outcome
same_begins (outcomes.Plan plan) = refl
same_begins (outcomes.Fault fault) = refl
same_begins outcomes.Empty = refl

same_order : (outcome : Outcome) → order_of (shown_of outcome) ≡ order_of outcome
same_order (outcomes.Plan plan) = refl
same_order (outcomes.Fault fault) = refl
same_order outcomes.Empty = refl

same_count : (stream : List Outcome) (count : ℕ) → count_by begins_period (take count (map shown_of stream)) ≡ count_by begins_period (take count stream)
same_count stream zero = refl
same_count [] (suc count) = refl
same_count (outcome ∷ stream) (suc count) =
    let own = same_begins outcome in
    let rest = same_count stream count in
    sum_by-cons (λ one. cond (begins_period one) 1 0) (shown_of outcome) (take count (map shown_of stream))
    ∙ ap (λ b. cond b 1 0 + count_by begins_period (take count (map shown_of stream))) own
    ∙ ap (λ n. cond (begins_period outcome) 1 0 + n) rest
    ∙ sym (sum_by-cons (λ one. cond (begins_period one) 1 0) outcome (take count stream))

same_get : (stream : List Outcome) (place : ℕ)
    → option_and_then order_of (slice_get (map shown_of stream) place) ≡ option_and_then order_of (slice_get stream place)
same_get [] place = refl
same_get (outcome ∷ stream) zero = same_order outcome
same_get (outcome ∷ stream) (suc place) = same_get stream place

same_key : (stream : List Outcome) (place : ℕ) → key_at (map shown_of stream) place ≡ key_at stream place
same_key stream place =
    ap (λ (period : ℕ). option_map (λ order. record { period = period; order = order; place = place }) (option_and_then order_of (slice_get (map shown_of stream) place)))
    (same_count stream (place + 1))
    ∙ ap (option_map (λ order. record { period = period_at stream place; order = order; place = place })) (same_get stream place)

-- positions by the key of each place
abbrev positions_by : (ℕ → Option Key) → ℕ → List (Option ℕ)
positions_by key count = map
    (λ place. option_map (λ own. count_by (λ other. is_earlier other own) (filter_map key (range_with_len 0 count))) (key place))
    (range_with_len 0 count)

pub same_positions : (stream : List Outcome) → positions_of (map shown_of stream) ≡ positions_of stream
same_positions stream =
    let keys : key_at (map shown_of stream) ≡ key_at stream = λ i place. same_key stream place i in
    ap (λ key. positions_by key (length (map shown_of stream))) keys ∙ ap (positions_by (key_at stream)) (length-map stream shown_of)
