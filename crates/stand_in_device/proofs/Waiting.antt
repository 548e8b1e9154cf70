-- How many requests can wait: no more than there are.
use Rattle.std.proofs.Common.{◌≡◌, ◌≢◌, ◌==◌, ℕ, ◌+◌, ◌<◌, ◌≤◌, ◌⊎◌, Bool, true, false, cond, List, [], ◌∷◌, length, Option, None, Some, get_or, is_some, count_by, arith, refl, get_or-set_other, get_or-set_same, ◌&&◌, inl, inr, subst, sym, slice_get, remove}
use Rattle.std.proofs.Math.ListN.{set}
use Rattle.std.proofs.lemmas.Bool.{cases_lt, cases_eq}
use Rattle.std.proofs.lemmas.Bool.Decides.{nat_tests}
use Rattle.std.proofs.lemmas.List.{get_or_past}
use Rattle.std.proofs.lemmas.List.Sums.{sum_by-set, sum_by-cons}
use Rattle.slab.specs.Slab.{Slab, get, with_value}
use Rattle.stand_in_device.specs.declared.m2m_queues.requests.QueueRequest.{QueueRequest}
use Rattle.stand_in_device.specs.declared.m2m_queues.requests.RequestState.TheVariants.{Complete}
use Rattle.stand_in_device.specs.Machine.{empty_request, has_controls, has_output, is_queued, is_queued_state}
use Rattle.stand_in_device.specs.Invariants.{IsSound}

-- how often an id stands in the order
abbrev pub times : ℕ → List ℕ → ℕ
times id order = count_by (λ other. other == id) order

-- the first id of an order stands in it once more than in the rest
times-first : (x : ℕ) (xs : List ℕ) → times x (x ∷ xs) ≡ 1 + times x xs
times-first x xs = rw (sum_by-cons (λ other. cond (other == x) 1 0) x xs) (grind (arith, nat_tests))

-- another id stands in it as often as in the rest
times-rest : (x id : ℕ) (xs : List ℕ) → times id xs ≤ times id (x ∷ xs)
times-rest x id xs = rw (sum_by-cons (λ other. cond (other == id) 1 0) x xs) (omega arith)

-- another id stands in it just as often
times-other : (x id : ℕ) (xs : List ℕ) → id ≢ x → times id (x ∷ xs) ≡ times id xs
times-other x id xs apart = rw (sum_by-cons (λ other. cond (other == id) 1 0) x xs) (grind (arith, nat_tests))

-- where something is there once at most, and is there, it is there
there : (b : Bool) (n : ℕ) → 1 + n ≤ cond b 1 0 → (b ≡ true) × (n ≡ 0) × (1 ≤ cond b 1 0)
there true n h = (refl, omega arith, omega arith)
there false n h = absurd (omega arith)

-- a place at which there is something is within the list
within : {A : Type 0} (slots : List (Option A)) (x : ℕ) → is_some (get_or slots x None) ≡ true → (x < length slots) ⊎ (length slots ≤ x) → x < length slots
within slots x e (inl h) = h
within slots x e (inr h) = let past = get_or_past slots x None h in absurd (cc)

-- an id of the rest is there, too, once the first one's thing is taken away
still_there : {A : Type 0} (slots : List (Option A)) (x id n : ℕ) → (id ≡ x → n ≡ 0) → n ≤ cond (is_some (get_or slots id None)) 1 0 → (id < x) ⊎ (x ≤ id) → (x < id) ⊎ (id ≤ x) → n ≤ cond (is_some (get_or (set slots x None) id None)) 1 0
still_there slots x id n none h (inl below) _ = let other : id ≢ x = omega arith in rw get_or-set_other h
still_there slots x id n none h (inr _) (inl above) = let other : id ≢ x = omega arith in rw get_or-set_other h
still_there slots x id n none h (inr p) (inr q) = let same : id ≡ x = omega arith in let gone = none same in omega arith

-- ids that each stand in a list once at most, and only where there is something, are no more than there are things
pub few_waiting : {A : Type 0} (slots : List (Option A)) (order : List ℕ) → ((id : ℕ) → times id order ≤ cond (is_some (get_or slots id None)) 1 0) → length order ≤ count_by is_some slots
few_waiting slots [] h = omega arith
few_waiting slots (x ∷ xs) h =
    let first = there (is_some (get_or slots x None)) (times x xs) (omega (arith, h x, times-first x xs)) in
    let inside = within slots x first.0 (cases_lt x (length slots)) in
    let less = sum_by-set (λ slot. cond (is_some slot) 1 0) slots x None None inside in
    let rest = few_waiting (set slots x None) xs (λ id. still_there slots x id (times id xs) (λ same. subst (λ n. times n xs ≡ 0) (sym same) first.1) (omega (arith, h id, times-rest x id xs)) (cases_lt id x) (cases_lt x id)) in
    omega (arith, less, first.2, rest)

-- what is there where something holds is there once at most
at_most_once : (b : Bool) (n : ℕ) → n ≡ cond b 1 0 → n ≤ 1
at_most_once true n h = omega arith
at_most_once false n h = omega arith

-- a queued request is there
there_where_queued : {C : Type 0} (request : Option (QueueRequest C)) (n : ℕ) → n ≡ cond (is_queued request) 1 0 → n ≤ cond (is_some request) 1 0
there_where_queued None n h = omega arith
there_where_queued (Some request) n h = at_most_once (is_queued_state request.state) n h

-- an idle request may be put into the order
may_wait : {C : Type 0} (requests : Slab (QueueRequest C)) (order : List ℕ) (id other : ℕ) (request : QueueRequest C) → IsSound requests order → get requests id ≡ Some request → is_queued (Some request) ≡ false → (other ≡ id) ⊎ (other ≢ id) → times other (id ∷ order) ≤ cond (is_some (get requests other)) 1 0
may_wait requests order id other request kept found idle (inl same) =
    let none : times id order ≡ 0 = rw (kept.each id, found, idle) refl in
    let seen : 1 ≤ cond (is_some (get requests id)) 1 0 = rw found (omega arith) in
    let here : times id (id ∷ order) ≤ cond (is_some (get requests id)) 1 0 = omega (arith, seen, none, times-first id order) in
    subst (λ n. times n (id ∷ order) ≤ cond (is_some (get requests n)) 1 0) (sym same) here
may_wait requests order id other request kept found idle (inr apart) =
    rw (times-other id other order apart) (there_where_queued (get requests other) (times other order) (kept.each other))

-- with an idle request there is room in the order of the queued ones
pub room_for_another : {C : Type 0} (requests : Slab (QueueRequest C)) (order : List ℕ) (id : ℕ) (request : QueueRequest C) → IsSound requests order → get requests id ≡ Some request → is_queued (Some request) ≡ false → length order < 64
room_for_another requests order id request kept found idle =
    let few = few_waiting requests.slots (id ∷ order) (λ other. may_wait requests order id other request kept found idle (cases_eq other id)) in
    omega (arith, few, kept.few)

-- a request that is there is written over by another: there are as many as before
same_count : {A : Type 0} (slots : List (Option A)) (id : ℕ) (there after : A) → get_or slots id None ≡ Some there → count_by is_some (set slots id (Some after)) ≡ count_by is_some slots
same_count slots id was after found =
    let inside = within slots id (rw found refl) (cases_lt id (length slots)) in
    let counted = sum_by-set (λ slot. cond (is_some slot) 1 0) slots id (Some after) None inside in
    let one : 1 ≤ cond (is_some (get_or slots id None)) 1 0 = rw found (omega arith) in
    let most : cond (is_some (get_or slots id None)) 1 0 ≤ 1 = rw found (omega arith) in
    omega (arith, counted)

-- the first request of the order is complete: it stands no more in the order, and the others as often as before
each_after_first : {C : Type 0} (requests : Slab (QueueRequest C)) (order : List ℕ) (id other : ℕ) (request : QueueRequest C) → IsSound requests (id ∷ order) → get requests id ≡ Some request → (other ≡ id) ⊎ (other ≢ id) → times other order ≡ cond (is_queued (get (with_value requests id (empty_request Complete)) other)) 1 0
each_after_first {C} requests order id other request kept found (inl same) =
    let inside : id < length requests.slots = within requests.slots id (rw found refl) (cases_lt id (length requests.slots)) in
    let once = at_most_once (is_queued (get requests id)) (times id (id ∷ order)) (kept.each id) in
    let gone : times id order ≡ 0 = omega (arith, once, times-first id order) in
    let here : times id order ≡ cond (is_queued (get (with_value requests id (empty_request {C = C} Complete)) id)) 1 0 = rw get_or-set_same gone in
    subst (λ n. times n order ≡ cond (is_queued (get (with_value requests id (empty_request {C = C} Complete)) n)) 1 0) (sym same) here
each_after_first requests order id other request kept found (inr apart) =
    rw (get_or-set_other, ← times-other id other order apart) (kept.each other)

-- each queued request has controls and a buffer still
whole_after_first : {C : Type 0} (requests : Slab (QueueRequest C)) (order : List ℕ) (id other : ℕ) (request : QueueRequest C) → IsSound requests (id ∷ order) → get requests id ≡ Some request → (other ≡ id) ⊎ (other ≢ id) → is_queued (get (with_value requests id (empty_request Complete)) other) ≡ true → (has_output (get (with_value requests id (empty_request Complete)) other) && has_controls (get (with_value requests id (empty_request Complete)) other)) ≡ true
whole_after_first {C} requests order id other request kept found (inl same) queued =
    let inside : id < length requests.slots = within requests.slots id (rw found refl) (cases_lt id (length requests.slots)) in
    let here : get (with_value requests id (empty_request {C = C} Complete)) id ≡ Some (empty_request Complete) = get_or-set_same requests.slots id (Some (empty_request Complete)) None inside in
    let never : is_queued (Some (empty_request {C = C} Complete)) ≡ true = rw (same, here) at queued in
    absurd (cc)
whole_after_first requests order id other request kept found (inr apart) queued =
    rw get_or-set_other (kept.whole other (rw get_or-set_other at queued))

-- the requests once the first of the order is complete, and the order without it, are kept
pub kept_after_first : {C : Type 0} (requests : Slab (QueueRequest C)) (order : List ℕ) (id : ℕ) (request : QueueRequest C) → IsSound requests order → slice_get order 0 ≡ Some id → get requests id ≡ Some request → IsSound (with_value requests id (empty_request Complete)) (remove order 0)
kept_after_first requests [] id request kept first found = cc
kept_after_first requests (x ∷ order) id request kept first found =
    let is_first : x ≡ id = cc in
    let kept_so = subst (λ n. IsSound requests (n ∷ order)) is_first kept in
    record {
      few = omega (arith, same_count requests.slots id request (empty_request Complete) found, kept.few);
      room = kept.room;
      each = λ other. each_after_first requests order id other request kept_so found (cases_eq other id);
      whole = λ other. whole_after_first requests order id other request kept_so found (cases_eq other id);
    }
