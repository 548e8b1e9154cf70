-- The outcomes of the units in front of a change.
use Rattle.std.proofs.Common.{◌≡◌, ℕ, ◌-◌, ◌≤◌, List, ◌++◌, length, take, drop, ap, sym, ◌∙◌, subst, arith}
use Rattle.std.proofs.Math.Seq.{drop-append-add}
use Rattle.std.proofs.lemmas.List.{length-take-le}
use Rattle.unit_outcomes.specs.declared.outcome.Outcome.{Outcome}
use Rattle.request_core.specs.States.{no_units}
use Rattle.request_core.specs.Fold.{outcomes_of}
use Rattle.request_core.specs.Agreement.{Stream}
use Rattle.stream_fold.specs.declared.refold.Refold.{Refold}
use Rattle.stream_fold.specs.Refolding.{GoesOn, IsRefolded}
use Rattle.stream_fold.proofs.Fronts.{take_more_of}
use Rattle.stream_fold.proofs.Folds.{length-outcomes_from, take-outcomes_from}

-- each unit has an outcome
pub as_many : (stream : Stream) (outcomes : List Outcome) → outcomes ≡ outcomes_of stream → length outcomes ≡ length stream
as_many stream outcomes are = ap length are ∙ length-outcomes_from no_units stream

-- past a front
past : {A : Type 0} (n : ℕ) (front rest : List A) → length front ≡ n → drop n (front ++ rest) ≡ rest
past n front rest is =
    ap (λ (k : ℕ). drop k (front ++ rest)) (omega (arith, is)) ∙ drop-append-add front rest 0

-- what a fold finds from its start up to a place is what the stream has there
pub are_kept : (stream : Stream) (outcomes : List Outcome) → outcomes ≡ outcomes_of stream → (at : ℕ) → at ≤ length stream
    → (first second : Refold) → first.from ≤ at → IsRefolded (take first.from stream) first
    → GoesOn first (take (at - first.from) (drop first.from stream)) second
    → take (at - first.from) (drop first.from outcomes) ≡ second.outcomes.items
are_kept stream outcomes are at within first second before start on =
    let from = first.from in
    let upto : IsRefolded (take at stream) second =
    subst (λ (units : Stream). IsRefolded units second) (sym (take_more_of from at stream before)) (on.refolded (take from stream) start) in
    let long : length outcomes ≡ length stream = as_many stream outcomes are in
    let found : List Outcome = outcomes_of (take at stream) in
    let whole : take at outcomes ≡ found = ap (take at) are ∙ take-outcomes_from no_units at stream in
    let many : length found ≡ at = length-outcomes_from no_units (take at stream) ∙ length-take-le at stream within in
    let stored : drop from (take at outcomes) ≡ take (at - from) (drop from outcomes) =
    ap (drop from) (take_more_of from at outcomes before)
    ∙ past from (take from outcomes) (take (at - from) (drop from outcomes)) (length-take-le from outcomes (omega (arith, long, before, within))) in
    let anew : drop from found ≡ second.outcomes.items =
    ap (drop from) upto.outcomes_are
    ∙ past from (take second.from found) second.outcomes.items
    (length-take-le second.from found (omega (arith, on.from_is, many, before)) ∙ on.from_is) in
    sym stored ∙ (ap (drop from) whole ∙ anew)
