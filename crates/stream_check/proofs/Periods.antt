-- The longest period, one unit more at a time.
use Rattle.std.proofs.Common.{◌≡◌, ◌≤◌, if◌then◌else◌, ℕ, ◌+◌, List, [], ◌∷◌, Bool, true, false, max, cond, not, count_by, refl, ◌∙◌, ap, arith, drop, get_or, length, ◌<◌}
use Rattle.std.specs.List.{before_first}
use Rattle.std.proofs.lemmas.Int.{clamps}
use Rattle.std.proofs.lemmas.List.{drop_more}
use Rattle.std.proofs.lemmas.List.Sums.{sum_by-cons, take_while-cons}
use Rattle.unit_outcomes.specs.declared.outcome.Outcome.{Outcome}
use Rattle.unit_outcomes.specs.declared.outcome.Outcome.TheVariants.{Plan, Fault, Empty}
use Rattle.stream_check.specs.StreamCounts.{before_next, begins_period, is_valid, longest_period}

-- how long a period is with a unit, which was so long before it
abbrev pub period_len : ℕ → Outcome → ℕ
period_len len outcome = if begins_period outcome then 1 else if is_valid outcome then len + 1 else len

-- the units before the next beginning of a period, by whether the first one is a beginning
first_units : (outcome : Outcome) (outcomes : List Outcome) (begins : Bool) → begins_period outcome ≡ begins
    → before_first begins_period (outcome ∷ outcomes) ≡ cond (not begins) (outcome ∷ before_first begins_period outcomes) []
first_units outcome outcomes begins is =
    take_while-cons (λ x. not (begins_period x)) outcome outcomes ∙ ap (λ b. cond (not b) (outcome ∷ before_first begins_period outcomes) []) is

-- how many valid ones there are among them
next_after : (outcome : Outcome) (outcomes : List Outcome) → begins_period outcome ≡ false
    → before_next (outcome ∷ outcomes) ≡ cond (is_valid outcome) 1 0 + before_next outcomes
next_after outcome outcomes none =
    ap (count_by is_valid) (first_units outcome outcomes false none)
    ∙ sum_by-cons (λ x. cond (is_valid x) 1 0) outcome (before_first begins_period outcomes)

next_at : (outcome : Outcome) (outcomes : List Outcome) → begins_period outcome ≡ true → before_next (outcome ∷ outcomes) ≡ 0
next_at outcome outcomes begins = ap (count_by is_valid) (first_units outcome outcomes true begins)

-- the longest period with one unit more in front
longest_more : (outcome : Outcome) (outcomes : List Outcome)
    → longest_period (outcome ∷ outcomes) ≡ max (cond (is_valid outcome) 1 0 + before_next outcomes) (longest_period outcomes)
longest_more outcome outcomes =
    ap (λ len. max len (longest_period outcomes)) (sum_by-cons (λ x. cond (is_valid x) 1 0) outcome (before_first begins_period outcomes))

-- those before the first beginning are no more than the longest
first_by : (outcome : Outcome) (outcomes : List Outcome) (begins : Bool) → begins_period outcome ≡ begins
    → before_next (outcome ∷ outcomes) ≤ longest_period (outcome ∷ outcomes)
first_by outcome outcomes true begins = omega (arith, clamps, next_at outcome outcomes begins)
first_by outcome outcomes false none = omega (arith, clamps, next_after outcome outcomes none, longest_more outcome outcomes)

pub first_le_longest : (outcomes : List Outcome) → before_next outcomes ≤ longest_period outcomes
first_le_longest [] = omega arith
first_le_longest (outcome ∷ outcomes) = first_by outcome outcomes (begins_period outcome) refl

-- a unit moves over to those that were looked at
step_by : (outcome : Outcome) (outcomes : List Outcome) (longest len : ℕ) → len ≤ longest → (begins : Bool) → begins_period outcome ≡ begins
    → max longest (max (len + before_next (outcome ∷ outcomes)) (longest_period (outcome ∷ outcomes)))
    ≡ max (max longest (period_len len outcome)) (max (period_len len outcome + before_next outcomes) (longest_period outcomes))
step_by (Plan plan) outcomes longest len last true begins =
    omega (arith, clamps, last, ap (λ b. if b then 1 else len + 1) begins, next_at (Plan plan) outcomes begins, longest_more (Plan plan) outcomes)
step_by (Plan plan) outcomes longest len last false none =
    omega (arith, clamps, last, ap (λ b. if b then 1 else len + 1) none, next_after (Plan plan) outcomes none, longest_more (Plan plan) outcomes)
step_by (Fault fault) outcomes longest len last begins is =
    omega (arith, clamps, last, next_after (Fault fault) outcomes refl, longest_more (Fault fault) outcomes)
step_by Empty outcomes longest len last begins is =
    omega (arith, clamps, last, next_after Empty outcomes refl, longest_more Empty outcomes)

-- the unit at a place does
pub longest_step : (outcomes : List Outcome) (place : ℕ) (other : Outcome) (longest len : ℕ) → place < length outcomes → len ≤ longest
    → max longest (max (len + before_next (drop place outcomes)) (longest_period (drop place outcomes)))
    ≡ max (max longest (period_len len (get_or outcomes place other)))
    (max (period_len len (get_or outcomes place other) + before_next (drop (place + 1) outcomes)) (longest_period (drop (place + 1) outcomes)))
longest_step outcomes place other longest len here last =
    ap (λ l. max longest (max (len + before_next l) (longest_period l))) (drop_more outcomes place other here)
    ∙ step_by (get_or outcomes place other) (drop (place + 1) outcomes) longest len last (begins_period (get_or outcomes place other)) refl
