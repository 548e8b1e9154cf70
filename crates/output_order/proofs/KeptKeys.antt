-- What stays of a period's keys under a change inside it.
use Rattle.std.proofs.Common.{◌≡◌, ℕ, zero, suc, ◌+◌, ◌-◌, ◌<◌, ◌≤◌, ◌⊎◌, inl, inr, ⊎_elim, Bool, true, false, cond, ltb, leb, Option, Some, None, is_some, List, [], ◌∷◌, ◌++◌, length, map, filter, take, drop, get_or, set, All, refl, sym, ap, ◌∙◌, arith}
use Rattle.std.proofs.Math.Seq.{drop-cons}
use Rattle.std.proofs.lemmas.Bool.{cases_lt, lt-ltb, le-ltb, le-leb, lt-leb, true≢false}
use Rattle.std.proofs.lemmas.Bool.Decides.{nat_tests}
use Rattle.std.proofs.lemmas.List.{append_assoc, append-nil, take-append-drop, take-set, drop-set, length-map, length-append, length-take-le, length-drop, map-append, get_or-map}
use Rattle.std.proofs.lemmas.List.Edits.{swap_is, split_between, length-between}
use Rattle.std.proofs.lemmas.List.Elements.{filter-append, filter_passes, All-nil, All-cons, All-head, All-tail}
use Rattle.std.proofs.lemmas.List.Kept.{IsSortedBy-filter}
use Rattle.std.proofs.lemmas.List.Sorted.{IsPermutation-refl, IsPermutation-cons, IsPermutation-trans, IsPermutation-append_comm, IsPermutation-append_left, IsPermutation-append_right, IsPermutation-keeps, IsPermutation-map, length_permutation, All-permutation}
use Rattle.std.proofs.lemmas.List.Sums.{count_by-le-length}
use Rattle.std.specs.List.{swap, slice_range}
use Rattle.std.specs.List.Sorted.{IsPermutation, IsSortedBy}
use Rattle.std.specs.Ordering.{nat_cmp}
use Rattle.output_order.specs.declared.shown.Shown.{Shown}
use Rattle.output_order.specs.declared.order_key.OrderKey.{OrderKey}
use Rattle.output_order.specs.OrderKeys.{is_first, order_keys_from, order_keys, AreInOrder}
use Rattle.output_order.specs.InPlace.{stays, moved}
use Rattle.output_order.specs.Periods.{spliced}
use Rattle.output_order.proofs.Halves.{weak}
use Rattle.output_order.proofs.OrderedKeys.{order_keys-append, length-order_keys}

-- a filter of two lists with the same elements
module _ {X : Type 0} (p : X → Bool) where
  exchanged : (front mid back : List X) → IsPermutation (front ++ mid ++ back) (back ++ mid ++ front)
  exchanged front mid back =
      let turned = IsPermutation-trans (front ++ mid ++ back) (back ++ (front ++ mid)) (back ++ (mid ++ front))
      (IsPermutation-append_comm (front ++ mid) back) (IsPermutation-append_right back (front ++ mid) (mid ++ front) (IsPermutation-append_comm front mid)) in
      rw (← append_assoc back mid front) at turned

  -- one element and another in each other's place
  filter_exchanged : (x y : X) (mid rest : List X) → IsPermutation (filter p (x ∷ (mid ++ y ∷ rest))) (filter p (y ∷ (mid ++ x ∷ rest)))
  filter_exchanged x y mid rest =
      let parts : (one other : X) → filter p (one ∷ (mid ++ other ∷ rest)) ≡ filter p (one ∷ []) ++ filter p mid ++ filter p (other ∷ []) ++ filter p rest =
      λ one other. filter-append p (one ∷ []) (mid ++ other ∷ rest)
      ∙ ap (λ all. filter p (one ∷ []) ++ all) (filter-append p mid (other ∷ rest) ∙ ap (λ all. filter p mid ++ all) (filter-append p (other ∷ []) rest))
      ∙ simp append_assoc in
      rw (parts x y, parts y x) (IsPermutation-append_left (filter p rest) _ _ (exchanged (filter p (x ∷ [])) (filter p mid) (filter p (y ∷ []))))

  set-parts : (xs : List X) (i : ℕ) (y : X) → i < length xs → set xs i y ≡ take i xs ++ y ∷ drop (i + 1) xs
  set-parts xs i y within = sym (take-append-drop i (set xs i y)) ∙ ap (λ front. front ++ drop i (set xs i y)) (take-set xs i y)
      ∙ ap (λ back. take i xs ++ back) (drop-set xs i y within)

  parts : (xs : List X) (i : ℕ) (d : X) → i < length xs → xs ≡ take i xs ++ get_or xs i d ∷ drop (i + 1) xs
  parts xs i d within = sym (take-append-drop i xs) ∙ ap (λ back. take i xs ++ back) (drop-cons xs i d within ∙ ap (λ n. get_or xs i d ∷ drop n xs) (let next : suc i ≡ i + 1 = omega arith in next))

  filter_first : (x : X) (xs : List X) (i : ℕ) → i < length xs → IsPermutation (filter p (x ∷ xs)) (filter p (get_or xs i x ∷ set xs i x))
  filter_first x xs i within =
      let moved = filter_exchanged x (get_or xs i x) (take i xs) (drop (i + 1) xs) in
      rw (← parts xs i x within, ← set-parts xs i x within) at moved

  filter_swap : (xs : List X) (i j : ℕ) → i < length xs → j < length xs → IsPermutation (filter p xs) (filter p (swap xs i j))
  filter_swap [] i j i_within j_within = absurd (omega arith)
  filter_swap (x ∷ xs) zero zero i_within j_within = IsPermutation-refl (filter p (x ∷ xs))
  filter_swap (x ∷ xs) zero (suc j) i_within j_within = filter_first x xs j (omega arith)
  filter_swap (x ∷ xs) (suc i) zero i_within j_within = filter_first x xs i (omega arith)
  filter_swap (x ∷ xs) (suc i) (suc j) i_within j_within =
      let rest = rw (← swap_is xs i j x (omega arith) (omega arith)) at (filter_swap xs i j (omega arith) (omega arith)) in
      by_test (p x) rest
    where
      by_test : (b : Bool) → IsPermutation (filter p xs) (filter p (set (set xs i (get_or xs j x)) j (get_or xs i x)))
          → IsPermutation (cond b (x ∷ filter p xs) (filter p xs))
          (cond b (x ∷ filter p (set (set xs i (get_or xs j x)) j (get_or xs i x))) (filter p (set (set xs i (get_or xs j x)) j (get_or xs i x))))
      by_test true rest = IsPermutation-cons x _ _ rest
      by_test false rest = rest

  pub IsPermutation-filter : (xs ys : List X) → IsPermutation xs ys → IsPermutation (filter p xs) (filter p ys)
  IsPermutation-filter xs ys is = IsPermutation-keeps xs (λ all. IsPermutation (filter p xs) (filter p all)) (IsPermutation-refl (filter p xs))
      (λ all i j i_within j_within so_far. IsPermutation-trans (filter p xs) (filter p all) (filter p (swap all i j)) so_far (filter_swap all i j i_within j_within)) ys is

-- whether a key stays, and where it moves
stays_front : (low high : ℕ) (key : OrderKey) → key.offset < low → stays low high key ≡ true
stays_front low high key below = let less : ltb key.offset low ≡ true = lt-ltb key.offset low below in rw less refl

stays_back : (low high : ℕ) (key : OrderKey) → high ≤ key.offset → stays low high key ≡ true
stays_back low high key from = ⊎_elim
    (λ below. stays_front low high key below)
    (λ past. let less : ltb key.offset low ≡ false = le-ltb key.offset low past in let more : leb high key.offset ≡ true = le-leb high key.offset from in rw (less, more) refl)
    (cases_lt key.offset low)

goes : (low high : ℕ) (key : OrderKey) → low ≤ key.offset → key.offset < high → stays low high key ≡ false
goes low high key from below =
    let less : ltb key.offset low ≡ false = le-ltb key.offset low from in
    let more : leb high key.offset ≡ false = lt-leb high key.offset below in
    rw (less, more) refl

moved_front : (from to : ℕ) (key : OrderKey) → key.offset < from → moved from to key ≡ key
moved_front from to key below = let less : ltb key.offset from ≡ true = lt-ltb key.offset from below in rw less refl

moved_back : (from to : ℕ) (key : OrderKey) → from ≤ key.offset → moved from to key ≡ record key { offset = key.offset - from + to }
moved_back from to key past = let less : ltb key.offset from ≡ false = le-ltb key.offset from past in rw less refl

-- the keys of units before, between and behind the places
filter-front : (low high offset : ℕ) (units : List (Option Shown)) → offset + length units ≤ low
    → filter (stays low high) (order_keys_from offset units) ≡ order_keys_from offset units
filter-front low high offset [] upto = refl
filter-front low high offset (None ∷ units) upto = filter-front low high (offset + 1) units (omega (arith, upto))
filter-front low high offset (Some shown ∷ units) upto =
    let key : OrderKey = record { order = shown.order; offset = offset } in
    ap (λ b. cond b (key ∷ filter (stays low high) (order_keys_from (offset + 1) units)) (filter (stays low high) (order_keys_from (offset + 1) units)))
    (stays_front low high key (omega (arith, upto)))
    ∙ ap (λ rest. key ∷ rest) (filter-front low high (offset + 1) units (omega (arith, upto)))

filter-between : (low high offset : ℕ) (units : List (Option Shown)) → low ≤ offset → offset + length units ≤ high
    → filter (stays low high) (order_keys_from offset units) ≡ []
filter-between low high offset [] from upto = refl
filter-between low high offset (None ∷ units) from upto = filter-between low high (offset + 1) units (omega (arith, from)) (omega (arith, upto))
filter-between low high offset (Some shown ∷ units) from upto =
    let key : OrderKey = record { order = shown.order; offset = offset } in
    ap (λ b. cond b (key ∷ filter (stays low high) (order_keys_from (offset + 1) units)) (filter (stays low high) (order_keys_from (offset + 1) units)))
    (goes low high key from (omega (arith, upto)))
    ∙ filter-between low high (offset + 1) units (omega (arith, from)) (omega (arith, upto))

filter-behind : (low high offset : ℕ) (units : List (Option Shown)) → high ≤ offset
    → filter (stays low high) (order_keys_from offset units) ≡ order_keys_from offset units
filter-behind low high offset [] from = refl
filter-behind low high offset (None ∷ units) from = filter-behind low high (offset + 1) units (omega (arith, from))
filter-behind low high offset (Some shown ∷ units) from =
    let key : OrderKey = record { order = shown.order; offset = offset } in
    ap (λ b. cond b (key ∷ filter (stays low high) (order_keys_from (offset + 1) units)) (filter (stays low high) (order_keys_from (offset + 1) units)))
    (stays_back low high key from)
    ∙ ap (λ rest. key ∷ rest) (filter-behind low high (offset + 1) units (omega (arith, from)))

map-front : (from to offset : ℕ) (units : List (Option Shown)) → offset + length units ≤ from
    → map (moved from to) (order_keys_from offset units) ≡ order_keys_from offset units
map-front from to offset [] upto = refl
map-front from to offset (None ∷ units) upto = map-front from to (offset + 1) units (omega (arith, upto))
map-front from to offset (Some shown ∷ units) upto =
    let key : OrderKey = record { order = shown.order; offset = offset } in
    ap (λ one. one ∷ map (moved from to) (order_keys_from (offset + 1) units)) (moved_front from to key (omega (arith, upto)))
    ∙ ap (λ rest. key ∷ rest) (map-front from to (offset + 1) units (omega (arith, upto)))

map-behind : (from to offset other : ℕ) (units : List (Option Shown)) → from ≤ offset → other ≡ offset - from + to
    → map (moved from to) (order_keys_from offset units) ≡ order_keys_from other units
map-behind from to offset other [] past is = refl
map-behind from to offset other (None ∷ units) past is = map-behind from to (offset + 1) (other + 1) units (omega (arith, past)) (omega (arith, past, is))
map-behind from to offset other (Some shown ∷ units) past is =
    let key : OrderKey = record { order = shown.order; offset = offset } in
    ap (λ one. one ∷ map (moved from to) (order_keys_from (offset + 1) units)) (moved_back from to key past)
    ∙ ap (λ place. let one : OrderKey = record { order = shown.order; offset = place } in one ∷ map (moved from to) (order_keys_from (offset + 1) units)) (sym is)
    ∙ ap (λ rest. let one : OrderKey = record { order = shown.order; offset = other } in one ∷ rest)
    (map-behind from to (offset + 1) (other + 1) units (omega (arith, past)) (omega (arith, past, is)))

-- nothing goes from between two places that are one, and nothing moves by nothing, or where no key
-- stands
pub filter-nothing : (low high : ℕ) (keys : List OrderKey) → high ≤ low → filter (stays low high) keys ≡ keys
filter-nothing low high [] none = refl
filter-nothing low high (key ∷ keys) none =
    let stay : stays low high key ≡ true = ⊎_elim (λ below. stays_front low high key below) (λ past. stays_back low high key (omega arith)) (cases_lt key.offset low) in
    ap (λ b. cond b (key ∷ filter (stays low high) keys) (filter (stays low high) keys)) stay ∙ ap (λ rest. key ∷ rest) (filter-nothing low high keys none)

pub map-nowhere : (place : ℕ) (keys : List OrderKey) → map (moved place place) keys ≡ keys
map-nowhere place [] = refl
map-nowhere place (key ∷ keys) =
    let same : moved place place key ≡ key = ⊎_elim
    (λ below. moved_front place place key below)
    (λ past. let back : key.offset - place + place ≡ key.offset = omega arith in moved_back place place key past ∙ ap (λ offset. let one : OrderKey = record key { offset = offset } in one) back)
    (cases_lt key.offset place) in
    ap (λ one. one ∷ map (moved place place) keys) same ∙ ap (λ rest. key ∷ rest) (map-nowhere place keys)

pub map-before : (from to units : ℕ) (keys : List OrderKey) → units ≤ from → All (λ key. key.offset < units) keys → map (moved from to) keys ≡ keys
map-before from to units [] past below = refl
map-before from to units (key ∷ keys) past below =
    ap (λ one. one ∷ map (moved from to) keys) (moved_front from to key (omega (arith, All-head (λ one. one.offset < units) key keys below, past)))
    ∙ ap (λ rest. key ∷ rest) (map-before from to units keys past (All-tail (λ one. one.offset < units) key keys below))

-- the offsets of keys are places of their units
pub offsets_below : (offset : ℕ) (units : List (Option Shown)) → All (λ key. key.offset < offset + length units) (order_keys_from offset units)
offsets_below offset [] = All-nil (λ key. key.offset < offset + 0)
offsets_below offset (None ∷ units) =
    let same : offset + 1 + length units ≡ offset + suc (length units) = omega arith in
    rw same at (offsets_below (offset + 1) units)
offsets_below offset (Some shown ∷ units) =
    let same : offset + 1 + length units ≡ offset + suc (length units) = omega arith in
    let key : OrderKey = record { order = shown.order; offset = offset } in
    All-cons (λ other. other.offset < offset + suc (length units)) key (order_keys_from (offset + 1) units) (omega arith) (rw same at (offsets_below (offset + 1) units))

-- a key that stays stands before both places or behind them
before_or_behind : (low high : ℕ) (key : OrderKey) → stays low high key ≡ true → (key.offset < low) ⊎ (high ≤ key.offset)
before_or_behind low high key is = ⊎_elim
    (λ below. inl below)
    (λ past. ⊎_elim (λ inside. absurd (true≢false (sym is ∙ goes low high key past inside))) (λ behind. inr behind) (cases_lt key.offset high))
    (cases_lt key.offset low)

-- such keys keep their order where they move
same_order : (one other : OrderKey) (front back : ℕ) → nat_cmp front back ≡ nat_cmp one.offset other.offset
    → is_first (record one { offset = front }) (record other { offset = back }) ≡ is_first one other
same_order one other front back is = rw is refl

moved_order : (low from to : ℕ) (one other : OrderKey) → low ≤ from → low ≤ to → stays low from one ≡ true → stays low from other ≡ true
    → is_first (moved from to one) (moved from to other) ≡ is_first one other
moved_order low from to one other upto kept one_stays other_stays = by_places (before_or_behind low from one one_stays) (before_or_behind low from other other_stays)
  where
    by_places : (one.offset < low) ⊎ (from ≤ one.offset) → (other.offset < low) ⊎ (from ≤ other.offset) → is_first (moved from to one) (moved from to other) ≡ is_first one other
    by_places (inl first) (inl second) = rw (moved_front from to one (omega (arith, first, upto)), moved_front from to other (omega (arith, second, upto))) refl
    by_places (inl first) (inr second) =
        let order : nat_cmp one.offset (other.offset - from + to) ≡ nat_cmp one.offset other.offset = grind (arith, nat_tests) in
        rw (moved_front from to one (omega (arith, first, upto)), moved_back from to other second) (same_order one other one.offset (other.offset - from + to) order)
    by_places (inr first) (inl second) =
        let order : nat_cmp (one.offset - from + to) other.offset ≡ nat_cmp one.offset other.offset = grind (arith, nat_tests) in
        rw (moved_back from to one first, moved_front from to other (omega (arith, second, upto))) (same_order one other (one.offset - from + to) other.offset order)
    by_places (inr first) (inr second) =
        let order : nat_cmp (one.offset - from + to) (other.offset - from + to) ≡ nat_cmp one.offset other.offset = grind (arith, nat_tests) in
        rw (moved_back from to one first, moved_back from to other second) (same_order one other (one.offset - from + to) (other.offset - from + to) order)

sorted-moved : (low from to : ℕ) (keys : List OrderKey) → low ≤ from → low ≤ to → All (λ key. stays low from key ≡ true) keys → IsSortedBy is_first keys
    → IsSortedBy is_first (map (moved from to) keys)
sorted-moved low from to keys upto kept stay ascending k d least below =
    let long : length (map (moved from to) keys) ≡ length keys = length-map keys (moved from to) in
    let next : get_or (map (moved from to) keys) (k + 1) d ≡ moved from to (get_or keys (k + 1) d) = get_or-map (moved from to) keys (k + 1) d d (omega (arith, long)) in
    let this : get_or (map (moved from to) keys) k d ≡ moved from to (get_or keys k d) = get_or-map (moved from to) keys k d d (omega (arith, long)) in
    rw (next, this) (moved_order low from to (get_or keys (k + 1) d) (get_or keys k d) upto kept (stay (k + 1) d (omega (arith, long))) (stay k d (omega (arith, long)))
    ∙ ascending k d least (omega (arith, long)))

-- a period's keys under a change inside it
module _ (units between : List (Option Shown)) (sorted : List OrderKey) (order : AreInOrder units sorted) (low high : ℕ) (ordered : low ≤ high) (within : high ≤ length units) where
  abbrev to : ℕ
  to = low + length between

  -- those that stay
  abbrev pub kept : List OrderKey
  kept = map (moved high to) (filter (stays low high) sorted)

  pub keys_below : All (λ key. key.offset < length units) sorted
  keys_below =
      let all : 0 + length units ≡ length units = omega arith in
      All-permutation (λ key. key.offset < length units) (order_keys units) sorted order.permutation (rw all at (offsets_below 0 units))

  pub kept_sorted : IsSortedBy is_first kept
  kept_sorted = sorted-moved low high to (filter (stays low high) sorted) ordered (omega arith) (filter_passes (stays low high) sorted)
      (IsSortedBy-filter is_first weak (stays low high) sorted order.ascending)

  front_long : length (take low units) ≡ low
  front_long = length-take-le low units (omega (arith, ordered, within))

  parts_are : units ≡ take low units ++ slice_range units low high ++ drop high units
  parts_are = split_between units low high ordered ∙ sym (append_assoc (take low units) (slice_range units low high) (drop high units))

  abbrev keys_before : List OrderKey
  keys_before = order_keys (take low units)

  keys_parts : order_keys units ≡ keys_before ++ order_keys_from low (slice_range units low high) ++ order_keys_from high (drop high units)
  keys_parts =
      let mid : 0 + length (take low units) ≡ low = omega (arith, front_long) in
      let back : 0 + length (take low units ++ slice_range units low high) ≡ high =
      omega (arith, length-append (take low units) (slice_range units low high), front_long, length-between units low high within, ordered) in
      ap order_keys parts_are ∙ order_keys-append 0 (take low units ++ slice_range units low high) (drop high units)
      ∙ ap (λ offset. order_keys (take low units ++ slice_range units low high) ++ order_keys_from offset (drop high units)) back
      ∙ ap (λ keys. keys ++ order_keys_from high (drop high units)) (order_keys-append 0 (take low units) (slice_range units low high)
      ∙ ap (λ offset. keys_before ++ order_keys_from offset (slice_range units low high)) mid)

  stay : filter (stays low high) (order_keys units) ≡ keys_before ++ order_keys_from high (drop high units)
  stay =
      let mid = slice_range units low high in
      ap (filter (stays low high)) keys_parts
      ∙ filter-append (stays low high) (keys_before ++ order_keys_from low mid) (order_keys_from high (drop high units))
      ∙ ap (λ keys. keys ++ filter (stays low high) (order_keys_from high (drop high units)))
      (filter-append (stays low high) keys_before (order_keys_from low mid)
      ∙ ap (λ keys. filter (stays low high) keys_before ++ keys) (filter-between low high low mid (omega arith) (omega (arith, length-between units low high within, ordered)))
      ∙ append-nil (filter (stays low high) keys_before) ∙ filter-front low high 0 (take low units) (omega (arith, front_long)))
      ∙ ap (λ keys. keys_before ++ keys) (filter-behind low high high (drop high units) (omega arith))

  kept_are : map (moved high to) (filter (stays low high) (order_keys units)) ≡ keys_before ++ order_keys_from to (drop high units)
  kept_are = ap (map (moved high to)) stay ∙ map-append (moved high to) keys_before (order_keys_from high (drop high units))
      ∙ ap (λ keys. keys ++ map (moved high to) (order_keys_from high (drop high units))) (map-front high to 0 (take low units) (omega (arith, front_long, ordered)))
      ∙ ap (λ keys. keys_before ++ keys) (map-behind high to high to (drop high units) (omega arith) (omega arith))

  keys_spliced : order_keys (spliced low high between units) ≡ keys_before ++ order_keys_from low between ++ order_keys_from to (drop high units)
  keys_spliced =
      let mid : 0 + length (take low units) ≡ low = omega (arith, front_long) in
      let back : 0 + length (take low units ++ between) ≡ to = omega (arith, length-append (take low units) between, front_long) in
      order_keys-append 0 (take low units ++ between) (drop high units)
      ∙ ap (λ offset. order_keys (take low units ++ between) ++ order_keys_from offset (drop high units)) back
      ∙ ap (λ keys. keys ++ order_keys_from to (drop high units)) (order_keys-append 0 (take low units) between
      ∙ ap (λ offset. keys_before ++ order_keys_from offset between) mid)

  -- so many stay at most, and so long the period is then
  pub length-kept : length kept ≤ length units - (high - low)
  length-kept =
      let same = length_permutation _ _ (IsPermutation-filter (stays low high) (order_keys units) sorted order.permutation) in
      omega (
        arith,
        length-map (filter (stays low high) sorted) (moved high to),
        same,
        ap length stay,
        length-append keys_before (order_keys_from high (drop high units)),
        length-order_keys 0 (take low units),
        length-order_keys high (drop high units),
        count_by-le-length is_some (take low units),
        count_by-le-length is_some (drop high units),
        front_long,
        length-drop high units,
        ordered,
        within,
      )

  pub length-spliced : length (spliced low high between units) ≡ length units - (high - low) + length between
  length-spliced = omega (arith, length-append (take low units ++ between) (drop high units), length-append (take low units) between, front_long, length-drop high units, ordered, within)

  -- with the keys of the others put in they are those of the changed period
  pub order_after : (new : List OrderKey) → IsPermutation (order_keys_from low between ++ kept) new → IsSortedBy is_first new → AreInOrder (spliced low high between units) new
  order_after new permutation ascending = record {
    permutation =
        let others = order_keys_from low between in
        let back = order_keys_from to (drop high units) in
        let turned : IsPermutation (keys_before ++ others ++ back) (others ++ keys_before ++ back) =
        IsPermutation-append_left back (keys_before ++ others) (others ++ keys_before) (IsPermutation-append_comm keys_before others) in
        let same = IsPermutation-map (moved high to) _ _ (IsPermutation-filter (stays low high) (order_keys units) sorted order.permutation) in
        let stayed : IsPermutation (others ++ (keys_before ++ back)) (others ++ kept) = IsPermutation-append_right others (keys_before ++ back) kept (rw kept_are at same) in
        rw keys_spliced (IsPermutation-trans (keys_before ++ others ++ back) (others ++ kept) new
        (IsPermutation-trans (keys_before ++ others ++ back) (others ++ (keys_before ++ back)) (others ++ kept) (rw (append_assoc others keys_before back) at turned) stayed) permutation);
    ascending = ascending;
  }
