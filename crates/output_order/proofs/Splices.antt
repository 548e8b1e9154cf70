-- The periods that a change of a range of units touches, and those after it.
use Rattle.std.proofs.Common.{◌≡◌, ℕ, suc, zero, ◌+◌, ◌-◌, ◌<◌, ◌≤◌, ◌^◌, min, max, ⊎_elim, Option, None, option_map, unwrap_or, List, [], ◌∷◌, ◌++◌, length, take, drop, get_or, slice_get, All, refl, sym, ap, ◌∙◌, arith}
use Rattle.std.proofs.lemmas.Bool.{cases_lt}
use Rattle.std.proofs.lemmas.List.{append_assoc, take_all, take-append-drop, take-take, drop-take, drop-drop, drop_at, length-append, length-drop, length-take-le, take-append-le, drop-append-le}
use Rattle.std.proofs.lemmas.List.Elements.{All-nil, All-cons, All-head, All-append, All-take, All-drop}
use Rattle.std.proofs.lemmas.Option.{slice_get-get_or, slice_get_past}
use Rattle.std.specs.List.{AllWithin, slice_range}
use Rattle.output_order.specs.declared.shown.Shown.{Shown}
use Rattle.output_order.specs.declared.counting.Count.{Count}
use Rattle.output_order.specs.Periods.{PeriodValue, units_of, IsPeriod, IsBegun, ArePeriods, spliced}
use Rattle.output_order.specs.PeriodLists.{AreCounted, Change, changed, IsSplice}
use Rattle.output_order.specs.Places.{IsTouched}
use Rattle.output_order.proofs.Starts.{units_of-append, units_parts}
use Rattle.output_order.proofs.Finds.{IsBegun-units}
use Rattle.output_order.proofs.PeriodPositions.{take_past}

module _ (periods : List PeriodValue) (counts : List Count) (counted : AreCounted periods (length periods) counts)
    (low high started ended : ℕ) (ordered : low ≤ high) (within : high ≤ length (units_of periods))
    (started_bound : started ≤ length counts) (started_before : AllWithin (λ count. count.start < low) counts 0 started)
    (ended_before : AllWithin (λ count. count.start < high) counts 0 ended) (ended_after : AllWithin (λ count. high ≤ count.start) counts ended (length counts)) where
  none : Count
  none = record { start = 0; earlier = 0 }

  abbrev first : ℕ
  first = started - 1

  abbrev past : ℕ
  past = min (max ended 1) (length counts)

  start_at : (at : ℕ) → at < length periods → (get_or counts at none).start ≡ length (units_of (take at periods))
  start_at at here = ap (λ count. count.start) (counted.each at none here)

  in_order : started ≤ ended
  in_order = ⊎_elim
      (λ back. absurd (omega (arith, started_before ended none (omega arith) back, ended_after ended none (omega arith) (omega arith))))
      (λ on. on)
      (cases_lt ended started)

  start_read : (start : ℕ) → start ≡ unwrap_or (option_map (λ count. count.start) (slice_get counts first)) 0 → start ≡ length (units_of (take first periods))
  start_read start is = ⊎_elim
      (λ here. is ∙ ap (λ read. unwrap_or (option_map (λ count. count.start) read) 0) (slice_get-get_or counts first none here)
      ∙ start_at first (omega (arith, counted.as_many)))
      (λ no.
      let empty : first ≡ 0 = omega arith in
      is ∙ ap (λ read. unwrap_or (option_map (λ count. count.start) read) 0) (slice_get_past counts first no) ∙ ap (λ n. length (units_of (take n periods))) (sym empty))
      (cases_lt first (length counts))

  started_below : 0 < started → length (units_of (take first periods)) < low
  started_below some = omega (arith, started_before first none (omega arith) (omega arith), start_at first (omega (arith, counted.as_many)))

  start_low : length (units_of (take first periods)) ≤ low
  start_low = ⊎_elim
      (λ zero. let empty : first ≡ 0 = omega arith in omega (arith, ap (λ n. length (units_of (take n periods))) empty))
      (λ some. omega (arith, started_below some))
      (cases_lt started 1)

  high_upto : high ≤ length (units_of (take past periods))
  high_upto = ⊎_elim
      (λ here. omega (arith, ended_after past none (omega arith) here, start_at past (omega (arith, counted.as_many))))
      (λ all. omega (arith, ap (λ front. length (units_of front)) (take_all past periods (omega (arith, counted.as_many)))))
      (cases_lt past (length counts))

  -- the period after the first begins at the first place or past it
  next_low : AllWithin (λ count. low ≤ count.start) counts started (length counts) → first + 1 < length periods
      → low ≤ length (units_of (take (first + 1) periods))
  next_low started_after inside = ⊎_elim
      (λ zero.
      let one : first + 1 ≡ 1 = omega arith in
      let begins = started_after 1 none (omega arith) (omega (arith, inside, counted.as_many)) in
      omega (arith, begins, start_at 1 (omega (arith, inside)), ap (λ n. length (units_of (take n periods))) one))
      (λ some.
      let same : first + 1 ≡ started = omega arith in
      let begins = started_after started none (omega arith) (omega (arith, inside, counted.as_many, some)) in
      omega (arith, begins, start_at started (omega (arith, inside, some)), ap (λ n. length (units_of (take n periods))) same))
      (cases_lt started 1)

  -- the last one begins before the second place
  last_low : 1 < past → length (units_of (take (past - 1) periods)) < high
  last_low more =
      omega (arith, ended_before (past - 1) none (omega arith) (omega arith), start_at (past - 1) (omega (arith, counted.as_many)))

  pub touched_is : (start : ℕ) → start ≡ unwrap_or (option_map (λ count. count.start) (slice_get counts first)) 0
      → AllWithin (λ count. low ≤ count.start) counts started (length counts)
      → IsTouched periods low high (record { first = first; past = past; start = start })
  touched_is start is started_after =
      let start_is = start_read start is in
      record {
        ordered = omega (arith, in_order);
        within = omega (arith, counted.as_many);
        start_is = start_is;
        from = omega (arith, start_is, start_low);
        upto = high_upto;
        some = λ some. omega (arith, counted.as_many);
        inner = λ some. omega (arith, start_is, started_below (omega arith));
        next = next_low started_after;
        last = last_low;
      }

-- with periods in the place of others, each begins but the first
module _ (periods new : List PeriodValue) (past : ℕ) (are : ArePeriods periods) (new_are : ArePeriods new) (some : 0 < length periods → 0 < past) where
  rest_begun : All (λ period. IsBegun period.units) (drop past periods)
  rest_begun = ⊎_elim
      (λ there.
      let last : 1 + (past - 1) ≡ past = omega (arith, some there) in
      let same : drop (past - 1) (drop 1 periods) ≡ drop past periods = drop-drop (past - 1) 1 periods ∙ ap (λ n. drop n periods) last in
      rw same at (All-drop (λ period. IsBegun period.units) (past - 1) (drop 1 periods) are.later))
      (λ empty. λ k d below. absurd (omega (arith, length-drop past periods)))
      (cases_lt 0 (length periods))

new_first : (new rest : List PeriodValue) → ArePeriods new → All (λ period. IsBegun period.units) rest → All (λ period. IsBegun period.units) (drop 1 (new ++ rest))
new_first [] rest are begun = All-drop (λ period. IsBegun period.units) 1 rest begun
new_first (one ∷ new) rest are begun = All-append (λ period. IsBegun period.units) new rest are.later begun

later_first : (periods new rest : List PeriodValue) (first : ℕ) → ArePeriods periods → ArePeriods new → All (λ period. IsBegun period.units) rest
    → (0 < first → 0 < length periods) → (0 < first → All (λ period. IsBegun period.units) new) → All (λ period. IsBegun period.units) (drop 1 (take first periods ++ new ++ rest))
later_first periods new rest zero are new_are begun there new_begun = new_first new rest new_are begun
later_first [] new rest (suc first) are new_are begun there new_begun = absurd (let no : 0 < 0 = there (omega arith) in omega arith)
later_first (one ∷ periods) new rest (suc first) are new_are begun there new_begun =
    All-append (λ period. IsBegun period.units) (take first periods ++ new) rest
    (All-append (λ period. IsBegun period.units) (take first periods) new (All-take (λ period. IsBegun period.units) first periods are.later) (new_begun (omega arith))) begun

begun_alone : (units rest : List (Option Shown)) → IsPeriod units → IsBegun (units ++ rest) → IsBegun units
begun_alone [] rest is begun = absurd is
begun_alone (one ∷ units) rest is begun = begun

all_begun : (new : List PeriodValue) → ArePeriods new → IsBegun (units_of new) → All (λ period. IsBegun period.units) new
all_begun [] are begun = All-nil (λ period. IsBegun period.units)
all_begun (one ∷ new) are begun = All-cons (λ period. IsBegun period.units) one new
    (begun_alone one.units (units_of new) (All-head (λ period. IsPeriod period.units) one new are.each) begun) are.later

front_begun : (units rest : List (Option Shown)) (count : ℕ) → 0 < count → 0 < length units → IsBegun units → IsBegun (take count units ++ rest)
front_begun units rest zero some there begun = absurd (omega arith)
front_begun [] rest (suc count) some there begun = absurd (omega arith)
front_begun (one ∷ units) rest (suc count) some there begun = begun

module _ (periods : List PeriodValue) (are : ArePeriods periods) (low high first past start : ℕ) (ordered : low ≤ high)
    (touched : IsTouched periods low high (record { first = first; past = past; start = start })) where
  abbrev before : List (Option Shown)
  before = units_of (take first periods)

  abbrev mid : List (Option Shown)
  mid = units_of (slice_range periods first past)

  abbrev after : List (Option Shown)
  after = units_of (drop past periods)

  front_parts : units_of (take past periods) ≡ before ++ mid
  front_parts =
      let sum : first + (past - first) ≡ past = omega (arith, touched.ordered) in
      ap units_of (sym (take-append-drop first (take past periods))
      ∙ ap (λ front. front ++ drop first (take past periods)) (take-take first past periods touched.ordered)
      ∙ ap (λ n. take first periods ++ drop first (take n periods)) (sym sum)
      ∙ ap (λ back. take first periods ++ back) (drop-take first (past - first) periods))
      ∙ units_of-append (take first periods) (slice_range periods first past)

  units_are : units_of periods ≡ before ++ mid ++ after
  units_are = units_parts periods past ∙ ap (λ front. front ++ after) front_parts

  -- what stands between the places is inside
  pub high_within : high - start ≤ length mid
  high_within = omega (arith, touched.upto, ap length front_parts, length-append before mid, touched.start_is)

  module _ (between : List (Option Shown)) (new : List PeriodValue) (new_are : ArePeriods new) (new_units : units_of new ≡ spliced (low - start) (high - start) between mid) where
    new_begun : 0 < first → All (λ period. IsBegun period.units) new
    new_begun some =
        let one = touched.inner some in
        let there : 0 < length mid = omega (arith, high_within) in
        let last : 1 + (first - 1) ≡ first = omega arith in
        let same : drop (first - 1) (drop 1 periods) ≡ drop first periods = drop-drop (first - 1) 1 periods ∙ ap (λ n. drop n periods) last in
        let mid_begun : All (λ period. IsBegun period.units) (slice_range periods first past) = All-take (λ period. IsBegun period.units) (past - first) (drop first periods) (rw same at (All-drop (λ period. IsBegun period.units) (first - 1) (drop 1 periods) are.later)) in
        let mid_each : All (λ period. IsPeriod period.units) (slice_range periods first past) = All-take (λ period. IsPeriod period.units) (past - first) (drop first periods) (All-drop (λ period. IsPeriod period.units) first periods are.each) in
        let begun = front_begun mid (between ++ drop (high - start) mid) (low - start) (omega arith) there (IsBegun-units (slice_range periods first past) mid_each mid_begun) in
        all_begun new new_are (rw (new_units, append_assoc (take (low - start) mid) between (drop (high - start) mid)) begun)

    pub periods_after : ArePeriods (take first periods ++ new ++ drop past periods)
    periods_after = record {
      each = All-append (λ period. IsPeriod period.units) (take first periods ++ new) (drop past periods)
          (All-append (λ period. IsPeriod period.units) (take first periods) new (All-take (λ period. IsPeriod period.units) first periods are.each) new_are.each)
          (All-drop (λ period. IsPeriod period.units) past periods are.each);
      later = later_first periods new (drop past periods) first are new_are (rest_begun periods new past are new_are touched.some)
          (λ some. omega (arith, touched.ordered, touched.within)) new_begun;
    }

    pub units_after : units_of (take first periods ++ new ++ drop past periods) ≡ spliced low high between (units_of periods)
    units_after =
        let low_is : length before + (low - start) ≡ low = omega (arith, touched.from, touched.start_is) in
        let high_is : length before + (high - start) ≡ high = omega (arith, touched.from, touched.start_is) in
        let all = length-append before mid in
        let front : take low (before ++ mid ++ after) ≡ before ++ take (low - start) mid =
        take-append-le low (before ++ mid) after (omega (arith, high_within)) ∙ ap (λ n. take n (before ++ mid)) (sym low_is) ∙ take_past before mid (low - start) in
        let back : drop high (before ++ mid ++ after) ≡ drop (high - start) mid ++ after =
        drop-append-le high (before ++ mid) after (omega (arith, high_within))
        ∙ ap (λ rest. rest ++ after) (ap (λ n. drop n (before ++ mid)) (sym high_is) ∙ sym (drop-drop (high - start) (length before) (before ++ mid)) ∙ ap (drop (high - start)) (drop_at before mid (length before) refl)) in
        let left = units_of-append (take first periods ++ new) (drop past periods) ∙ ap (λ front. front ++ after) (units_of-append (take first periods) new ∙ ap (λ more. before ++ more) new_units) in
        let right = ap (λ units. take low units ++ between ++ drop high units) units_are ∙ ap (λ f. f ++ between ++ drop high (before ++ mid ++ after)) front
        ∙ ap (λ b. before ++ take (low - start) mid ++ between ++ b) back in
        let same : before ++ (take (low - start) mid ++ between ++ drop (high - start) mid) ++ after
        ≡ before ++ take (low - start) mid ++ between ++ (drop (high - start) mid ++ after) = simp append_assoc in
        left ∙ same ∙ sym right

    abbrev change : Change
    change = record { inside = None; first = first; past = past; periods = new }

    -- the change can be made, and does what is asked
    pub splice_is : length (spliced low high between (units_of periods)) < 2 ^ 64 → IsSplice change periods low high between
    splice_is fits =
        let long : length (units_of (changed change periods)) ≡ length (spliced low high between (units_of periods)) = ap length units_after in
        record {
          can = record {
            inside = tt;
            ordered = touched.ordered;
            within = touched.within;
            cut = periods_after;
            fits = omega (arith, long, fits);
          };
          does = units_after;
        }

-- so few are there after a change
pub length_spliced : (low high : ℕ) (between units : List (Option Shown)) → low ≤ high → high ≤ length units
    → length (spliced low high between units) ≤ length units + length between
length_spliced low high between units ordered within = omega (
  arith,
  length-append (take low units ++ between) (drop high units),
  length-append (take low units) between,
  length-take-le low units (omega (arith, ordered, within)),
  length-drop high units,
  ordered,
)
