-- What several slices give, where all give something.
use Rattle.std.proofs.Common.{◌≡◌, List, [], ◌∷◌, map, All, Result, Ok, Err, refl, sym, subst}
use Rattle.std.proofs.lemmas.List.Elements.{All-nil, All-cons, All-head, All-tail}
use Rattle.unit_outcomes.specs.declared.validity_fault.ValidityFault.{ValidityFault}
use Rattle.slice_reading.specs.Numbers.{joined, gathered}

-- the first gives something, and so do the others
joined_ok : {A : Type 0} (answer : Result A ValidityFault) (answers : Result (List A) ValidityFault) (given : List A) → joined answer answers ≡ Ok given
    → (x : A) × (xs : List A) × (answer ≡ Ok x) × (answers ≡ Ok xs) × (given ≡ x ∷ xs)
joined_ok (Ok x) (Ok xs) given is = let same : x ∷ xs ≡ given = cc in (x, xs, refl, refl, sym same)
joined_ok (Ok x) (Err other) given is = absurd cc
joined_ok (Err fault) (Ok xs) given is = absurd cc
joined_ok (Err fault) (Err other) given is = absurd cc

-- what holds of all that is asked holds of all that is given
pub all_gathered : {A B : Type 0} (P : A → Type 0) (Q : B → Type 0) (answer : A → Result B ValidityFault)
    → ((x : A) (y : B) → P x → answer x ≡ Ok y → Q y)
    → (xs : List A) (ys : List B) → All P xs → gathered (map answer xs) ≡ Ok ys → All Q ys
all_gathered P Q answer each [] ys all is = let none : [] ≡ ys = cc in subst (All Q) none (All-nil Q)
all_gathered P Q answer each (x ∷ xs) ys all is =
    let parts = joined_ok (answer x) (gathered (map answer xs)) ys is in
    subst (All Q) (sym parts.4)
    (All-cons Q parts.0 parts.1 (each x parts.0 (All-head P x xs all) parts.2)
    (all_gathered P Q answer each xs parts.1 (All-tail P x xs all) parts.3))

-- where something is asked, something is given
pub some_gathered : {A : Type 0} (answer : Result A ValidityFault) (answers : List (Result A ValidityFault)) (given : List A)
    → gathered (answer ∷ answers) ≡ Ok given → (x : A) × (xs : List A) × (given ≡ x ∷ xs)
some_gathered answer answers given is =
    let parts = joined_ok answer (gathered answers) given is in (parts.0, parts.1, parts.4)
