-- Counts where all pass, where none does, and through a map.
use Rattle.std.proofs.Common.{◌≡◌, ◌+◌, Bool, true, false, cond, List, [], ◌∷◌, length, map, All, refl, sym, ap, ◌∙◌, arith}
use Rattle.std.proofs.lemmas.List.Elements.{All-head, All-tail}
use Rattle.std.proofs.lemmas.List.Sums.{sum_by-cons}
use Rattle.std.specs.List.{count_by}

pub count_all : {X : Type 0} (p : X → Bool) (xs : List X) → All (λ x. p x ≡ true) xs → count_by p xs ≡ length xs
count_all p [] all = refl
count_all p (x ∷ xs) all =
    let rest = count_all p xs (All-tail (λ y. p y ≡ true) x xs all) in
    sum_by-cons (λ y. cond (p y) 1 0) x xs ∙ ap (λ b. cond b 1 0 + count_by p xs) (All-head (λ y. p y ≡ true) x xs all) ∙ omega (arith, rest)

pub count_none : {X : Type 0} (p : X → Bool) (xs : List X) → All (λ x. p x ≡ false) xs → count_by p xs ≡ 0
count_none p [] none = refl
count_none p (x ∷ xs) none =
    let rest = count_none p xs (All-tail (λ y. p y ≡ false) x xs none) in
    sum_by-cons (λ y. cond (p y) 1 0) x xs ∙ ap (λ b. cond b 1 0 + count_by p xs) (All-head (λ y. p y ≡ false) x xs none) ∙ omega (arith, rest)

pub count_through : {X Y : Type 0} (p : Y → Bool) (q : X → Bool) (f : X → Y) → ((x : X) → p (f x) ≡ q x) → (xs : List X) → count_by p (map f xs) ≡ count_by q xs
count_through p q f agree [] = refl
count_through p q f agree (x ∷ xs) =
    let rest = count_through p q f agree xs in
    sum_by-cons (λ y. cond (p y) 1 0) (f x) (map f xs) ∙ ap (λ b. cond b 1 0 + count_by p (map f xs)) (agree x)
    ∙ ap (λ n. cond (q x) 1 0 + n) rest ∙ sym (sum_by-cons (λ y. cond (q y) 1 0) x xs)
