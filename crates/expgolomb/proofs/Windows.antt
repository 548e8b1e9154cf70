-- What a window of 64 bits says of the bits after it.
use Rattle.std.proofs.Common.{◌≡◌, ℕ, zero, suc, ◌+◌, ◌-◌, ◌*◌, ◌/◌, ◌%◌, ◌^◌, ◌<◌, ◌≤◌, Bool, true, false, not, List, [], ◌∷◌, ◌++◌, length, take, drop, replicate, refl, sym, ◌∙◌, ap, subst, arith, inl, inr, min, ◌⊎◌}
use Rattle.std.specs.List.{prefix_len}
use lib.Count.{count_leading_zeros, leading_of_zero}
use Rattle.std.proofs.lemmas.Bool.{cases_lt}
use Rattle.std.proofs.Math.Nat.{pow-suc, pow-le-pow_right}
use Rattle.std.proofs.lemmas.List.{length-append, length-drop, length-take-le, length-replicate, append_assoc, take-append-drop, take-append-le, drop-append-le, take-take, drop-take}
use Rattle.std.proofs.lemmas.Nat.{mod-mul-add, div-mul-add, leading_length}
use Rattle.expgolomb.specs.Bits.{number, bits_of, byte_bits}
use Rattle.expgolomb.specs.Window.{IsWindow}
use Rattle.expgolomb.proofs.Numbers.{number-lt, number-append, number-zeros, length-bits_of, bits_of-append}

-- the prefix of a text of bits, and its end
pub number-div : (xs ys : List Bool) → number (xs ++ ys) / 2 ^ length ys ≡ number xs
number-div xs ys = rw (number-append xs ys) (div-mul-add (number xs) (2 ^ length ys) (number ys) (number-lt ys))

pub number-mod : (xs ys : List Bool) → number (xs ++ ys) % 2 ^ length ys ≡ number ys
number-mod xs ys = rw (number-append xs ys) (mod-mul-add (number xs) (2 ^ length ys) (number ys) (number-lt ys))

-- a word of 64 bits less the front that was read
shifted : (bits : List Bool) (n : ℕ) → length bits ≡ 64 → n ≤ 64 → number bits * 2 ^ n % 2 ^ 64 ≡ number (drop n bits ++ replicate n false)
shifted bits n long fits =
    let left : length (drop n bits ++ replicate n false) ≡ 64 = rw (length-append, length-drop, length-replicate) (omega arith) in
    let more : number bits * 2 ^ n ≡ number (take n bits ++ (drop n bits ++ replicate n false)) =
    rw (← append_assoc, take-append-drop, number-append bits (replicate n false), length-replicate {A = Bool} n false, number-zeros n) (omega arith) in
    rw (more) (subst (λ (k : ℕ). number (take n bits ++ (drop n bits ++ replicate n false)) % 2 ^ k ≡ number (drop n bits ++ replicate n false)) left (number-mod (take n bits) (drop n bits ++ replicate n false)))

take-bits_of : (n : ℕ) (bytes : List ℕ) → take (8 * n) (bits_of bytes) ≡ bits_of (take n bytes)
take-bits_of zero bytes = refl
take-bits_of (suc n) [] = let more : 8 * suc n ≡ suc (8 * n + 7) = omega arith in rw more refl
take-bits_of (suc n) (b ∷ bytes) = let more : 8 * suc n ≡ suc (suc (suc (suc (suc (suc (suc (suc (8 * n)))))))) = omega arith in rw more (ap (λ bits. byte_bits b ++ bits) (take-bits_of n bytes))

pub window_is : (bytes : List ℕ) (bit : ℕ) → bit < 8 → bit ≤ 8 * length bytes → IsWindow (drop bit (bits_of bytes)) (number (bits_of (take 8 (bytes ++ replicate 8 0))) * 2 ^ bit % 2 ^ 64)
window_is bytes bit h within =
    let all = bits_of bytes ++ replicate 64 false in
    let word = bits_of (take 8 (bytes ++ replicate 8 0)) in
    let padded : word ≡ take 64 all =
    sym (take-bits_of 8 (bytes ++ replicate 8 0)) ∙ ap (λ bits. take 64 bits) (bits_of-append bytes (replicate 8 0)) in
    let long : length word ≡ 64 = ap length padded ∙ length-take-le 64 all (rw (length-append, length-replicate) (omega arith)) in
    let after : length (drop bit word) ≡ 64 - bit = length-drop bit word ∙ ap (λ n. n - bit) long in
    let split : 64 ≡ bit + (64 - bit) = omega arith in
    let inner : drop bit word ≡ take (64 - bit) (drop bit all) =
    ap (drop bit) (padded ∙ ap (λ n. take n all) split) ∙ drop-take bit (64 - bit) all in
    record {
      bits = drop bit word ++ replicate bit false;
      long = rw (length-append, length-replicate) (omega (arith, after));
      value = shifted word bit long (omega arith);
      front =
          take-append-le 57 (drop bit word) (replicate bit false) (omega (arith, after))
          ∙ (ap (take 57) inner
          ∙ (take-take 57 (64 - bit) (drop bit all) (omega arith)
          ∙ ap (take 57) (drop-append-le bit (bits_of bytes) (replicate 64 false) (rw length-bits_of within))));
    }

-- the first n of 64 bits as a number
pub number-front : (bits : List Bool) (n : ℕ) → length bits ≡ 64 → n ≤ 64 → number bits / 2 ^ (64 - n) ≡ number (take n bits)
number-front bits n long fits =
    let left : length (drop n bits) ≡ 64 - n = length-drop n bits ∙ ap (λ k. k - n) long in
    let whole = take-append-drop n bits in
    subst (λ (k : ℕ). number bits / 2 ^ k ≡ number (take n bits)) left (subst (λ (xs : List Bool). number xs / 2 ^ length (drop n bits) ≡ number (take n bits)) whole (number-div (take n bits) (drop n bits)))

-- what a window says of the next n bits
pub front_of_window : (rest : List Bool) (word n : ℕ) → IsWindow rest word → n ≤ 57 → n ≤ length rest → word / 2 ^ (64 - n) ≡ number (take n rest)
front_of_window rest word n w short left =
    let same : take n w.bits ≡ take n rest =
    sym (take-take n 57 w.bits short) ∙ (ap (take n) w.front ∙ (take-take n 57 (rest ++ replicate 64 false) short ∙ take-append-le n rest (replicate 64 false) left)) in
    rw w.value (number-front w.bits n w.long (omega arith) ∙ ap number same)

-- one length in digits has a number
one_length : (a m n : ℕ) → a < 2 ^ m → 2 ^ n ≤ 2 * a + 1 → n ≤ m
one_length a m n h l =
    elim (cases_lt m n) [
      | inl less ↦ absurd (omega (arith, pow-suc 2 m, pow-le-pow_right {n = 2} (omega arith) {i = suc m} {j = n} less))
      | inr le ↦ le
    ]

leading_below : (k a : ℕ) → a < 2 ^ k → count_leading_zeros (suc k) a ≡ suc (count_leading_zeros k a)
leading_below k a h =
    let short = leading_length k a h in
    let long = leading_length (suc k) a (omega (arith, pow-suc 2 k)) in
    omega (arith, short.1, long.1, one_length a short.0 long.0 short.2 long.3, one_length a long.0 short.0 long.2 short.3)

leading_full : (k a : ℕ) → 2 ^ k ≤ a → a < 2 ^ suc k → count_leading_zeros (suc k) a ≡ 0
leading_full k a full h =
    let long = leading_length (suc k) a h in
    omega (arith, long.1, one_length a long.0 (suc k) long.2 (omega (arith, pow-suc 2 k)))

-- the zeros at the start of a text of bits
leading-number : (bits : List Bool) → count_leading_zeros (length bits) (number bits) ≡ prefix_len not bits
leading-number [] = leading_of_zero 0
leading-number (false ∷ bits) =
    let same : number (false ∷ bits) ≡ number bits = omega arith in
    ap (count_leading_zeros (suc (length bits))) same ∙ omega (arith, leading_below (length bits) (number bits) (number-lt bits), leading-number bits)
leading-number (true ∷ bits) =
    let same : number (true ∷ bits) ≡ 2 ^ length bits + number bits = omega arith in
    ap (count_leading_zeros (suc (length bits))) same
    ∙ leading_full (length bits) (2 ^ length bits + number bits) (omega arith) (omega (arith, number-lt bits, pow-suc 2 (length bits)))

prefix_len-take : (n : ℕ) (bits : List Bool) → prefix_len not (take n bits) ≡ min n (prefix_len not bits)
prefix_len-take zero bits = omega arith
prefix_len-take (suc n) [] = omega arith
prefix_len-take (suc n) (true ∷ bits) = omega arith
prefix_len-take (suc n) (false ∷ bits) = omega (arith, prefix_len-take n bits)

-- The zeros at the start of a window are those of the bits after it, or the bits end before them.
pub zeros_of_window : (rest : List Bool) (word : ℕ) → IsWindow rest word → min 57 (count_leading_zeros 64 word) ≡ min 57 (prefix_len not (rest ++ replicate 64 false))
zeros_of_window rest word w =
    let zeros : count_leading_zeros 64 word ≡ prefix_len not w.bits =
    ap (count_leading_zeros 64) w.value ∙ (ap (λ n. count_leading_zeros n (number w.bits)) (sym w.long) ∙ leading-number w.bits) in
    rw zeros (sym (prefix_len-take 57 w.bits) ∙ (ap (prefix_len not) w.front ∙ prefix_len-take 57 (rest ++ replicate 64 false)))

-- the zeros of padded bits
pub zeros_of_padded : (rest : List Bool) → (prefix_len not (rest ++ replicate 64 false) ≡ prefix_len not rest) × (prefix_len not rest < length rest) ⊎ (prefix_len not rest ≡ length rest) × (prefix_len not (rest ++ replicate 64 false) ≡ length rest + 64)
zeros_of_padded [] = inr (refl, refl)
zeros_of_padded (true ∷ rest) = inl (refl, omega arith)
zeros_of_padded (false ∷ rest) =
    elim (zeros_of_padded rest) [ inl h ↦ inl (omega (arith, h.0), omega (arith, h.1)) | inr h ↦ inr (omega (arith, h.0), omega (arith, h.1)) ]

-- fewer than 32 zeros in a window: a 1 comes after them
pub few_in_window : (rest : List Bool) (word : ℕ) → IsWindow rest word → count_leading_zeros 64 word < 32 → (count_leading_zeros 64 word ≡ prefix_len not rest) × (prefix_len not rest < length rest)
few_in_window rest word w few =
    let same = zeros_of_window rest word w in
    elim (zeros_of_padded rest) [ inl h ↦ (omega (arith, h.0), h.1) | inr h ↦ absurd (omega (arith, h.1)) ]

-- 32 zeros or more: so many begin the bits, or the bits end before
pub many_in_window : (rest : List Bool) (word : ℕ) → IsWindow rest word → 32 ≤ count_leading_zeros 64 word → (32 ≤ prefix_len not rest) ⊎ (prefix_len not rest ≡ length rest)
many_in_window rest word w many =
    let same = zeros_of_window rest word w in
    elim (zeros_of_padded rest) [ inl h ↦ inl (omega (arith, h.0)) | inr h ↦ inr h.0 ]

-- what n bits stand for is below 2^n
pub front-lt : (rest : List Bool) (n : ℕ) → n ≤ length rest → number (take n rest) < 2 ^ n
front-lt rest n left = subst (λ (k : ℕ). number (take n rest) < 2 ^ k) (length-take-le n rest left) (number-lt (take n rest))
