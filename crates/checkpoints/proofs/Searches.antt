-- What a search by halves answers is how many places pass at the front.
use Rattle.std.proofs.Common.{◌≡◌, ℕ, zero, suc, ◌<◌, ◌≤◌, Bool, true, false, List, [], ◌∷◌, length, get_or, refl, arith}
use Rattle.std.specs.List.{prefix_len, AllWithin}
use Rattle.std.specs.List.Sorted.{IsNonDecreasingBy}
use Rattle.std.proofs.lemmas.List.Elements.{All-from_recursion}
use Rattle.checkpoints.specs.Places.{AreRising}

-- places that rise don't fall
get_or-rising : (ps : List ℕ) (i j d : ℕ) → AreRising ps → i ≤ j → j < length ps → get_or ps i d ≤ get_or ps j d
get_or-rising [] i j d rising le within = absurd (omega arith)
get_or-rising (p ∷ ps) zero zero d rising le within = omega arith
get_or-rising (p ∷ ps) zero (suc j) d rising le within =
    let above = All-from_recursion (λ q. p < q) ps rising.0 j d (omega arith) in omega (arith, above)
get_or-rising (p ∷ ps) (suc i) zero d rising le within = absurd (omega arith)
get_or-rising (p ∷ ps) (suc i) (suc j) d rising le within = get_or-rising ps i j d rising.1 (omega arith) (omega arith)

pub IsNonDecreasingBy-rising : (ps : List ℕ) → AreRising ps → IsNonDecreasingBy (λ p. p) ps
IsNonDecreasingBy-rising ps rising i j d le within = get_or-rising ps i j d rising le within

-- the place between those that pass and those that don't
pub prefix_len-is : (test : ℕ → Bool) (ps : List ℕ) (i : ℕ) → i ≤ length ps → AllWithin (λ p. test p ≡ true) ps 0 i → AllWithin (λ p. test p ≡ false) ps i (length ps) → i ≡ prefix_len test ps
prefix_len-is test [] i le passes fails = omega arith
prefix_len-is test (p ∷ ps) zero le passes fails = let fails-first : test p ≡ false = fails 0 0 (omega arith) (omega arith) in rw fails-first refl
prefix_len-is test (p ∷ ps) (suc i) le passes fails =
    let passes-first : test p ≡ true = passes 0 0 (omega arith) (omega arith) in
    let rest : i ≡ prefix_len test ps = prefix_len-is test ps i (omega arith) (λ k d low high. passes (suc k) d (omega arith) (omega arith)) (λ k d low high. fails (suc k) d (omega arith) (omega arith)) in
    rw passes-first (omega (arith, rest))
