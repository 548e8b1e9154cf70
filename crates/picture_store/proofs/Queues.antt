-- The places in a queue, where one is put in and where the first goes.
use Rattle.std.proofs.Common.{◌≡◌, sym, ap, subst, ◌∙◌, ℕ, ◌<◌, ◌≤◌, List, ◌∷◌, Option, None, Some, length, get_or, slice_get, false, ◌⊎◌, inl, inr, arith}
use Rattle.std.specs.Prelude.{IfNone, IfSome}
use Rattle.std.specs.List.{HoldsAt}
use Rattle.std.specs.BinaryHeap.{IsUpperBound}
use Rattle.std.specs.List.Sorted.{IsPermutation}
use Rattle.std.specs.Ordering.{is_lt, nat_cmp}
use Rattle.std.proofs.lemmas.Bool.Decides.{nat_tests}
use Rattle.std.proofs.lemmas.List.Elements.{All-contains, All-from_recursion}
use Rattle.std.proofs.lemmas.List.Sorted.{Contains-permutation, IsPermutation-sym}
use Rattle.std.specs.declared.cmp.Reverse.{Reverse}
use Rattle.held_pictures.proofs.Members.{here, there, first_or_among}
use Rattle.picture_store.specs.declared.job_out.JobOut.{JobOut}
use Rattle.picture_store.specs.Due.{IsDueNumber, IsDueThere, IsNotDue}
use Rattle.picture_store.specs.Stored.{Trees}
use Rattle.picture_store.specs.KeySlots.{KeySlotsValue}
use Rattle.picture_store.specs.Schedules.{AddsDue, IsQueue, IsQueued}

module _ (old new : List (Reverse ℕ)) (first : ℕ) where
  abbrev item : Reverse ℕ
  item = record { 0 = first }

  module _ (moved : IsPermutation (item ∷ old) new) where
    -- what was in a queue is in it with one place more
    pub pushed_stay : (at : ℕ) → IsQueued old at → IsQueued new at
    pushed_stay at is =
        Contains-permutation (item ∷ old) new (record { 0 = at }) moved (there item (record { 0 = at }) old is)

    -- and that one
    pub pushed_there : IsQueued new first
    pushed_there = Contains-permutation (item ∷ old) new item moved (here item old)

    -- and nothing else
    pub pushed_only : (at : ℕ) → IsQueued new at → IsQueued old at ⊎ (first ≡ at)
    pushed_only at is =
        elim (first_or_among item (record { 0 = at }) old
        (Contains-permutation new (item ∷ old) (record { 0 = at }) (IsPermutation-sym (item ∷ old) new moved) is)) [
          | inl same ↦ inr (ap (λ (place : Reverse ℕ). place.0) same)
          | inr later ↦ inl later
        ]

  module _ (moved : IsPermutation old (item ∷ new)) where
    -- what was in a queue is in it where the first place left, or is that one
    pub popped_stay : (at : ℕ) → IsQueued old at → (first ≡ at) ⊎ IsQueued new at
    popped_stay at is =
        elim (first_or_among item (record { 0 = at }) new (Contains-permutation old (item ∷ new) (record { 0 = at }) moved is)) [
          | inl same ↦ inl (ap (λ (place : Reverse ℕ). place.0) same)
          | inr later ↦ inr later
        ]

    pub popped_only : (at : ℕ) → IsQueued new at → IsQueued old at
    popped_only at is =
        Contains-permutation (item ∷ new) old (record { 0 = at }) (IsPermutation-sym old (item ∷ new) moved)
        (there item (record { 0 = at }) new is)

module _ (old new : List (Reverse ℕ)) (result : Option (Reverse ℕ)) (Same : Type 0)
    (stays : IfNone result ((new ≡ old) × Same)) where
  -- a queue where the first place left, if one did, is in order
  pub left_ordered : (Above : Reverse ℕ → Type 0) → IfSome result (λ x. IsQueue old → IsQueue new × Above x) → IsQueue old
      → IsQueue new
  left_ordered Above keeps ordered = by_result result keeps stays
    where
      by_result : (o : Option (Reverse ℕ)) → IfSome o (λ x. IsQueue old → IsQueue new × Above x)
          → IfNone o ((new ≡ old) × Same) → IsQueue new
      by_result None keeps same = subst IsQueue (sym same.0) ordered
      by_result (Some x) keeps same = (keeps ordered).0

  module _ (moved : IfSome result (λ x. IsPermutation old (x ∷ new))) where
    -- what was in it is in it still, or was the first place
    pub left_queued : (top : Reverse ℕ) → HoldsAt (λ y. top ≡ y) old 0 → IfSome result (λ x. x ≡ get_or old 0 x)
        → (at : ℕ) → IsQueued old at → (top.0 ≡ at) ⊎ IsQueued new at
    left_queued top stands first at is = by_result result first moved stays
      where
        by_result : (o : Option (Reverse ℕ)) → IfSome o (λ x. x ≡ get_or old 0 x)
            → IfSome o (λ x. IsPermutation old (x ∷ new)) → IfNone o ((new ≡ old) × Same) → (top.0 ≡ at) ⊎ IsQueued new at
        by_result None first moves same = inr (subst (λ queue. IsQueued queue at) (sym same.0) is)
        by_result (Some x) first moves same =
            let one : top ≡ x = stands x ∙ sym first in
            popped_stay old new top.0 (subst (λ (y : Reverse ℕ). IsPermutation old (y ∷ new)) (sym one) moves) at is

    -- and nothing else is
    pub left_only : (at : ℕ) → IsQueued new at → IsQueued old at
    left_only at is = by_result result moved stays
      where
        by_result : (o : Option (Reverse ℕ)) → IfSome o (λ x. IsPermutation old (x ∷ new))
            → IfNone o ((new ≡ old) × Same) → IsQueued old at
        by_result None moves same = subst (λ queue. IsQueued queue at) same.0 is
        by_result (Some x) moves same = popped_only old new x.0 moves at is

-- the place on top is in the queue
pub top_queued : (queue : List (Reverse ℕ)) (top : Reverse ℕ) → 0 < length queue → HoldsAt (λ y. top ≡ y) queue 0
    → IsQueued queue top.0
top_queued queue top some stands = (0, some, sym (stands top))

not_below : (a b : ℕ) → is_lt (nat_cmp a b) ≡ false → b ≤ a
not_below a b is = grind (arith, nat_tests)

-- the place on top is the earliest
pub top_earliest : (queue : List (Reverse ℕ)) (top : Reverse ℕ) → IsUpperBound (λ x y. nat_cmp y.0 x.0) top queue
    → (at : ℕ) → IsQueued queue at → top.0 ≤ at
top_earliest queue top above at is =
    let all = All-from_recursion (λ (other : Reverse ℕ). is_lt (nat_cmp other.0 top.0) ≡ false) queue above in
    not_below at top.0 (All-contains (λ (other : Reverse ℕ). is_lt (nat_cmp other.0 top.0) ≡ false) queue (record { 0 = at }) all is)

module _ {P : Type 0} (keys : Trees) (key_slots : KeySlotsValue P) (out : List (JobOut P)) (numbers : List (Option ℕ)) where
  -- nothing is added where none comes that is due
  pub adds_none : (Comes : ℕ → Type 0) (queue : List (Reverse ℕ))
      → ((at : ℕ) → Comes at → IsDueThere keys key_slots out numbers at → ⊥) → AddsDue keys key_slots out numbers Comes queue queue
  adds_none Comes queue none = record {
    ordered = λ is. is;
    stay = λ at is. is;
    only = λ at is. inl is;
    all = λ at comes due. absurd (none at comes due);
  }

  -- a place that comes is added
  pub adds_one : (at : ℕ) (queue after : List (Reverse ℕ)) → (IsQueue queue → IsQueue after)
      → IsPermutation ((record { 0 = at }) ∷ queue) after → AddsDue keys key_slots out numbers (λ place. at ≡ place) queue after
  adds_one at queue after ordered moved = record {
    ordered = ordered;
    stay = pushed_stay queue after at moved;
    only = pushed_only queue after at moved;
    all = λ place same due. subst (IsQueued after) same (pushed_there queue after at moved);
  }

  -- places that come after others are added to them
  pub adds_more : (First Second Comes : ℕ → Type 0) (queue next after : List (Reverse ℕ))
      → AddsDue keys key_slots out numbers First queue next → AddsDue keys key_slots out numbers Second next after
      → ((at : ℕ) → First at → Comes at) → ((at : ℕ) → Second at → Comes at)
      → ((at : ℕ) → Comes at → First at ⊎ Second at) → AddsDue keys key_slots out numbers Comes queue after
  adds_more First Second Comes queue next after one two first second either = record {
    ordered = λ is. two.ordered (one.ordered is);
    stay = λ at is. two.stay at (one.stay at is);
    only = λ at is. elim (two.only at is) [
      | inl before ↦ elim (one.only at before) [ inl was ↦ inl was | inr comes ↦ inr (first at comes) ]
      | inr comes ↦ inr (second at comes)
    ];
    all = λ at comes due. elim (either at comes) [
      | inl one_comes ↦ two.stay at (one.all at one_comes due)
      | inr two_comes ↦ two.all at two_comes due
    ];
  }

  -- the same places come
  pub adds_same : (First Comes : ℕ → Type 0) (queue after : List (Reverse ℕ)) → ((at : ℕ) → First at → Comes at)
      → ((at : ℕ) → Comes at → First at) → AddsDue keys key_slots out numbers First queue after
      → AddsDue keys key_slots out numbers Comes queue after
  adds_same First Comes queue after to from adds = record {
    ordered = adds.ordered;
    stay = adds.stay;
    only = λ at is. elim (adds.only at is) [ inl was ↦ inl was | inr comes ↦ inr (to at comes) ];
    all = λ at comes due. adds.all at (from at comes) due;
  }

-- a unit whose key isn't due isn't
pub not_there : {P : Type 0} (keys : Trees) (key_slots : KeySlotsValue P) (out : List (JobOut P)) (numbers : List (Option ℕ)) (at : ℕ) (number : Option ℕ)
    → ((n : ℕ) → slice_get numbers at ≡ Some (Some n) → number ≡ Some n) → IsNotDue keys key_slots out number
    → IsDueThere keys key_slots out numbers at → ⊥
not_there keys key_slots out numbers at number read not (n, n_is, due) =
    subst (λ o. IfSome o (λ k. IsDueNumber keys key_slots out k → ⊥)) (read n n_is) not due
