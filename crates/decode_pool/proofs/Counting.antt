-- Counting elements that a test finds: each once at most, and over a range of tests.
use Rattle.std.proofs.Common.{◌≡◌, ◌⊎◌, ℕ, zero, suc, ◌+◌, ◌<◌, ◌≤◌, ◌||◌, ◌==◌, Bool, true, false, cond, List, [], ◌∷◌, take, Some, refl, sym, ◌∙◌, ap, inl, inr, arith}
use Rattle.std.specs.Prelude.{slice_get, count_by, sum_by}
use Rattle.std.specs.List.{list_any}
use Rattle.std.proofs.lemmas.Bool.{ne_eqb, eqb-true, eqb-false}
use Rattle.std.proofs.lemmas.List.Sums.{sum_by-cons}

-- one where it holds, else none
abbrev pub weight : Bool → ℕ
weight b = cond b 1 0

pub not_both : (b : Bool) → b ≡ true → b ≡ false → ⊥
not_both b met unmet = cc

-- an element that passes the test has none before it that does
abbrev pub AreLoneFirsts : {X : Type 0} → (X → Bool) → List X → Type 0
AreLoneFirsts {X} test xs =
    (at : ℕ) (x : X) → slice_get xs at ≡ Some x → test x ≡ true → list_any test (take at xs) ≡ false

-- unmet element passes the test
abbrev pub NonePasses : {X : Type 0} → (X → Bool) → List X → Type 0
NonePasses {X} test xs = (at : ℕ) (x : X) → slice_get xs at ≡ Some x → test x ≡ true → ⊥

or_right : (a b : Bool) → (a || b) ≡ false → b ≡ false
or_right true b unmet = absurd (not_both true refl unmet)
or_right false b unmet = unmet

pub one_if : (b : Bool) → b ≡ false → weight b ≡ 0
one_if b unmet = ap (λ (v : Bool). weight v) unmet

pub wake : (b : Bool) → (b ≡ true) ⊎ (b ≡ false)
wake true = inl refl
wake false = inr refl

fails : (b : Bool) → (b ≡ true → ⊥) → b ≡ false
fails true unmet = absurd (unmet refl)
fails false unmet = refl

count_none : {X : Type 0} (test : X → Bool) (xs : List X) → NonePasses test xs → count_by test xs ≡ 0
count_none test [] none = refl
count_none {X} test (x ∷ xs) none =
    let here : weight (test x) ≡ 0 = one_if (test x) (fails (test x) (none 0 x refl)) in
    let rest : count_by test xs ≡ 0 = count_none test xs (λ at y is. none (suc at) y is) in
    omega (arith, sum_by-cons (λ (y : X). weight (test y)) x xs)

count_lone_at : {X : Type 0} (test : X → Bool) (x : X) (xs : List X) (b : Bool) → test x ≡ b
    → AreLoneFirsts test (x ∷ xs) → count_by test xs ≡ weight (list_any test xs)
    → count_by test (x ∷ xs) ≡ weight (test x || list_any test xs)
count_lone_at {X} test x xs true met lone rest =
    let none : NonePasses test xs = λ at y is passes.
    not_both (test x || list_any test (take at xs))
    (ap (λ (b : Bool). b || list_any test (take at xs)) met) (lone (suc at) y is passes) in
    let zero_rest : count_by test xs ≡ 0 = count_none test xs none in
    let one : weight (test x) ≡ 1 = ap (λ (b : Bool). weight b) met in
    let goal : weight (test x || list_any test xs) ≡ 1 =
    ap (λ (b : Bool). weight (b || list_any test xs)) met in
    omega (arith, sum_by-cons (λ (y : X). weight (test y)) x xs)
count_lone_at {X} test x xs false unmet lone rest =
    let none : weight (test x) ≡ 0 = one_if (test x) unmet in
    let goal : weight (test x || list_any test xs) ≡ weight (list_any test xs) =
    ap (λ (b : Bool). weight (b || list_any test xs)) unmet in
    omega (arith, sum_by-cons (λ (y : X). weight (test y)) x xs)

-- where none before it passes, one passes or none does
pub count_lone : {X : Type 0} (test : X → Bool) (xs : List X) → AreLoneFirsts test xs
    → count_by test xs ≡ weight (list_any test xs)
count_lone test [] lone = refl
count_lone test (x ∷ xs) lone =
    let rest : AreLoneFirsts test xs = λ at y is passes.
    or_right (test x) (list_any test (take at xs)) (lone (suc at) y is passes) in
    count_lone_at test x xs (test x) refl lone (count_lone test xs rest)

-- sums of what is the same at each element
pub sum_same : {X : Type 0} (f g : X → ℕ) (xs : List X)
    → ((at : ℕ) (x : X) → slice_get xs at ≡ Some x → f x ≡ g x) → sum_by f xs ≡ sum_by g xs
sum_same f g [] same = refl
sum_same f g (x ∷ xs) same =
    let here : f x ≡ g x = same 0 x refl in
    let rest : sum_by f xs ≡ sum_by g xs = sum_same f g xs (λ at y is. same (suc at) y is) in
    omega (arith, sum_by-cons f x xs, sum_by-cons g x xs)

-- the sum at the numbers from 1 to another
abbrev pub sum_to : (ℕ → ℕ) → ℕ → ℕ
sum_to f zero = 0
sum_to f (suc n) = sum_to f n + f (n + 1)

pub sum_to-same : (f g : ℕ → ℕ) (n : ℕ) → ((k : ℕ) → k < n → f (k + 1) ≡ g (k + 1)) → sum_to f n ≡ sum_to g n
sum_to-same f g zero same = refl
sum_to-same f g (suc n) same =
    let here : f (n + 1) ≡ g (n + 1) = same n (omega arith) in
    let rest : sum_to f n ≡ sum_to g n = sum_to-same f g n (λ k low. same k (omega arith)) in
    omega arith

pub sum_to-zero : (n : ℕ) → sum_to (λ k. 0) n ≡ 0
sum_to-zero zero = refl
sum_to-zero (suc n) = let rest = sum_to-zero n in omega arith

pub sum_to-one : (n : ℕ) → sum_to (λ k. 1) n ≡ n
sum_to-one zero = refl
sum_to-one (suc n) = let rest = sum_to-one n in omega arith

sum_to-add : (f g : ℕ → ℕ) (n : ℕ) → sum_to (λ k. f k + g k) n ≡ sum_to f n + sum_to g n
sum_to-add f g zero = refl
sum_to-add f g (suc n) = let rest = sum_to-add f g n in omega arith

-- sums over numbers and over elements change places
pub sum_to-sum_by : {X : Type 0} (f : ℕ → X → ℕ) (xs : List X) (n : ℕ)
    → sum_to (λ k. sum_by (f k) xs) n ≡ sum_by (λ x. sum_to (λ k. f k x) n) xs
sum_to-sum_by f [] n = sum_to-zero n
sum_to-sum_by f (x ∷ xs) n =
    sum_to-same (λ k. sum_by (f k) (x ∷ xs)) (λ k. f k x + sum_by (f k) xs) n (λ k low. sum_by-cons (f (k + 1)) x xs)
    ∙ (sum_to-add (λ k. f k x) (λ k. sum_by (f k) xs) n
    ∙ (ap (λ (rest : ℕ). sum_to (λ k. f k x) n + rest) (sum_to-sum_by f xs n)
    ∙ sym (sum_by-cons (λ y. sum_to (λ k. f k y) n) x xs)))

-- a number is met once among those from 1 to one that isn't below it
pub met_never : (m n : ℕ) → n < m → sum_to (λ k. weight (m == k)) n ≡ 0
met_never m zero high = refl
met_never m (suc n) high =
    let rest : sum_to (λ k. weight (m == k)) n ≡ 0 = met_never m n (omega arith) in
    let other : m ≡ n + 1 → ⊥ = λ is. absurd (omega arith) in
    let none : weight (m == (n + 1)) ≡ 0 = one_if (m == (n + 1)) (ne_eqb m (n + 1) other) in
    omega arith

pub met_once : (m n : ℕ) → 0 < m → m ≤ n → sum_to (λ k. weight (m == k)) n ≡ 1
met_once m zero low within = absurd (omega arith)
met_once m (suc n) low within =
    elim (wake (m == (n + 1))) as (λ _. sum_to (λ k. weight (m == k)) (suc n) ≡ 1) [
      | inl met ↦
          (let one : weight (m == (n + 1)) ≡ 1 = ap (λ (b : Bool). weight b) met in
          let same : m ≡ n + 1 = eqb-true m (n + 1) met in
          let rest : sum_to (λ k. weight (m == k)) n ≡ 0 = met_never m n (omega arith) in
          omega arith)
      | inr unmet ↦
          (let none : weight (m == (n + 1)) ≡ 0 = one_if (m == (n + 1)) unmet in
          let other : m ≡ n + 1 → ⊥ = eqb-false m (n + 1) unmet in
          let lower : m ≤ n = omega arith in
          let rest : sum_to (λ k. weight (m == k)) n ≡ 1 = met_once m n low lower in
          omega arith)
    ]

-- a place where an element passes the test
abbrev pub Passes : {X : Type 0} → (X → Bool) → List X → Type 0
Passes {X} test xs = (at : ℕ) × (x : X) × (slice_get xs at ≡ Some x) × (test x ≡ true)

found_at : {X : Type 0} (test : X → Bool) (x : X) (xs : List X) (b : Bool) → test x ≡ b
    → (test x || list_any test xs) ≡ true → (list_any test xs ≡ true → Passes test xs) → Passes test (x ∷ xs)
found_at test x xs true met any rest = (0, x, refl, met)
found_at test x xs false unmet any rest =
    let later = rest (sym (ap (λ (b : Bool). b || list_any test xs) unmet) ∙ any) in
    (suc later.0, later.1, later.2, later.3)

pub found : {X : Type 0} (test : X → Bool) (xs : List X) → list_any test xs ≡ true → Passes test xs
found test [] any = absurd (cc)
found test (x ∷ xs) any = found_at test x xs (test x) refl any (found test xs)
