-- A list of two.
use Rattle.std.proofs.Common.{◌≡◌, List, [], ◌∷◌, length, get_or, map, refl, arith}

-- what each of the two is turned into
pub mapped-pair : {A B : Type 0} (f : A → B) (pair : List A) (none : A) → length pair ≡ 2
    → f (get_or pair 0 none) ∷ f (get_or pair 1 none) ∷ [] ≡ map f pair
mapped-pair f [] none long = absurd (omega arith)
mapped-pair f (a ∷ []) none long = absurd (omega arith)
mapped-pair f (a ∷ b ∷ []) none long = refl
mapped-pair f (a ∷ b ∷ c ∷ rest) none long = absurd (omega arith)
