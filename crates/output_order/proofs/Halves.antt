-- A search by halves for how many keys stand before one.
use Rattle.std.proofs.Common.{◌≡◌, ℕ, ◌+◌, ◌<◌, ◌≤◌, ⊎_elim, Bool, true, false, cond, List, length, take, drop, get_or, sym, ◌∙◌, arith}
use Rattle.std.proofs.lemmas.Bool.{cases_Bool, true≢false}
use Rattle.std.proofs.lemmas.Cmp.{nat_cmp_total, int_cmp_total, on_total, then_total}
use Rattle.std.proofs.lemmas.List.{get_or-take, get_or-drop, length-take-le, length-drop}
use Rattle.std.proofs.lemmas.List.Sorted.{ranks_by, sorted_far}
use Rattle.std.proofs.lemmas.List.Sums.{sum_by-take-drop}
use Rattle.std.specs.Cmp.{IsTotalOrder, IsStrictWeakOrder}
use Rattle.std.specs.List.{AllWithin, count_by}
use Rattle.std.specs.List.Sorted.{IsSortedBy, IsPartitionedBy}
use Rattle.std.specs.Ordering.{nat_cmp, int_cmp, ordering_then}
use Rattle.output_order.specs.declared.order_key.OrderKey.{OrderKey}
use Rattle.output_order.specs.OrderKeys.{is_first}
use Rattle.output_order.proofs.Counts.{count_all, count_none}

-- the keys before `low` are shown before this one, and those from `high` on aren't
pub record IsNarrowed (sorted : List OrderKey) (key : OrderKey) (low high : ℕ) : Type 0 where
  pub ordered : low ≤ high
  pub within : high ≤ length sorted
  pub before : AllWithin (λ other. is_first other key ≡ true) sorted 0 low
  pub after : AllWithin (λ other. is_first other key ≡ false) sorted high (length sorted)

key_total : IsTotalOrder (λ (one : OrderKey) (other : OrderKey). ordering_then (int_cmp one.order other.order) (nat_cmp one.offset other.offset))
key_total = then_total (on_total (λ key. key.order) int_cmp_total) (on_total (λ key. key.offset) nat_cmp_total)

pub weak : IsStrictWeakOrder is_first
weak = ranks_by key_total (λ one. one)

module _ (sorted : List OrderKey) (ascending : IsSortedBy is_first sorted) (key : OrderKey) where
  passes : (k middle : ℕ) (d : OrderKey) → k ≤ middle → middle < length sorted → is_first (get_or sorted middle d) key ≡ true → is_first (get_or sorted k d) key ≡ true
  passes k middle d upto within first = ⊎_elim
      (λ yes. yes)
      (λ no. absurd (true≢false (sym first ∙ weak.chain (get_or sorted middle d) (get_or sorted k d) key (sorted_far is_first weak sorted ascending k middle d upto within) no)))
      (cases_Bool (is_first (get_or sorted k d) key))

  fails : (k middle : ℕ) (d : OrderKey) → middle ≤ k → k < length sorted → is_first (get_or sorted middle d) key ≡ false → is_first (get_or sorted k d) key ≡ false
  fails k middle d from within last = weak.chain (get_or sorted k d) (get_or sorted middle d) key (sorted_far is_first weak sorted ascending middle k d from within) last

  -- the keys that are shown before this one stand before the others
  pub parted : IsPartitionedBy (λ other. is_first other key) sorted
  parted i j d upto within first = passes i j d upto within first

  module _ (low high middle : ℕ) (narrowed : IsNarrowed sorted key low high) (from : low ≤ middle) (below : middle < high) where
    pub narrowed_up : ((d : OrderKey) → is_first (get_or sorted middle d) key ≡ true) → IsNarrowed sorted key (middle + 1) high
    narrowed_up first = record {
      ordered = omega arith;
      within = narrowed.within;
      before = λ k d _ upto. passes k middle d (omega arith) (omega (arith, narrowed.within)) (first d);
      after = narrowed.after;
    }

    pub narrowed_down : ((d : OrderKey) → is_first (get_or sorted middle d) key ≡ false) → IsNarrowed sorted key low middle
    narrowed_down last = record {
      ordered = from;
      within = omega (arith, narrowed.within);
      before = narrowed.before;
      after = λ k d least within. fails k middle d least within (last d);
    }

pub rank_is : (sorted : List OrderKey) (key : OrderKey) (low high : ℕ) → IsNarrowed sorted key low high → high ≤ low → low ≡ count_by (λ other. is_first other key) sorted
rank_is sorted key low high narrowed met =
    let p : OrderKey → Bool = λ other. is_first other key in
    let within : low ≤ length sorted = omega (arith, narrowed.ordered, narrowed.within) in
    let long : length (take low sorted) ≡ low = length-take-le low sorted within in
    let first : count_by p (take low sorted) ≡ length (take low sorted) = count_all p (take low sorted) (λ k d below.
    let here : k < low = omega (arith, long) in rw (get_or-take low sorted k d here) (narrowed.before k d (omega arith) here)) in
    let last : count_by p (drop low sorted) ≡ 0 = count_none p (drop low sorted) (λ k d below.
    rw (get_or-drop low sorted k d) (narrowed.after (low + k) d (omega (arith, met)) (omega (arith, length-drop low sorted)))) in
    omega (arith, first, last, long, sum_by-take-drop (λ other. cond (is_first other key) 1 0) sorted low)
