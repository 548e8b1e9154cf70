-- Texts of bits as numbers.
use Rattle.std.proofs.Common.{◌≡◌, ℕ, zero, suc, ◌+◌, ◌-◌, ◌*◌, ◌/◌, ◌%◌, ◌^◌, ◌<◌, ◌≤◌, Bool, true, false, cond, eqb, List, [], ◌∷◌, ◌++◌, length, take, drop, replicate, get_or, refl, sym, ◌∙◌, ap, inl, inr, add_assoc, arith}
use Rattle.std.proofs.lemmas.List.{length-append, length-drop, length-replicate, append_assoc, drop-drop, get_or-replicate, get_or_past}
use Rattle.std.proofs.lemmas.Bool.{cases_lt}
use Rattle.std.proofs.Math.Nat.{pow-suc}
use Rattle.std.proofs.lemmas.Nat.{pow-add, mod-pow-add}
use Rattle.expgolomb.specs.Bits.{number, bits_of, byte_bits, bit_of, Place, skip, start}

-- a text of n bits is below 2^n
pub number-lt : (xs : List Bool) → number xs < 2 ^ length xs
number-lt [] = omega arith
number-lt (true ∷ xs) = omega (arith, number-lt xs, pow-suc 2 (length xs))
number-lt (false ∷ xs) = omega (arith, number-lt xs, pow-suc 2 (length xs))

one_more : (b k l m n : ℕ) → b * (k * l) + (m * l + n) ≡ (b * k + m) * l + n
one_more b k l m n = grind arith

pub number-append : (xs ys : List Bool) → number (xs ++ ys) ≡ number xs * 2 ^ length ys + number ys
number-append [] ys = omega arith
number-append (x ∷ xs) ys =
    rw (number-append xs ys, length-append xs ys, pow-add 2 (length xs) (length ys)) (one_more (cond x 1 0) (2 ^ length xs) (2 ^ length ys) (number xs) (number ys))

pub number-zeros : (n : ℕ) → number (replicate n false) ≡ 0
number-zeros zero = refl
number-zeros (suc n) = omega (arith, number-zeros n)

-- the bit of weight 2^k as a digit
digit : (b k : ℕ) → cond (bit_of b k) 1 0 ≡ b / 2 ^ k % 2
digit b k = let below : b / 2 ^ k % 2 < 2 = omega arith in binary _ below
  where
    binary : (x : ℕ) → x < 2 → cond (eqb x 1) 1 0 ≡ x
    binary zero h = refl
    binary (suc zero) h = refl
    binary (suc (suc x)) h = absurd (omega arith)

-- one more digit before the low ones
digit_before : (b k m : ℕ) → m ≡ b % 2 ^ k → cond (bit_of b k) 1 0 * 2 ^ k + m ≡ b % 2 ^ (1 + k)
digit_before b k m low = rw (digit b k, low) (sym (mod-pow-add b 1 k))

pub number-byte : (b : ℕ) → b < 256 → number (byte_bits b) ≡ b
number-byte b h =
    let d0 = digit_before b 0 0 (omega arith) in
    let d1 = digit_before b 1 _ d0 in
    let d2 = digit_before b 2 _ d1 in
    let d3 = digit_before b 3 _ d2 in
    let d4 = digit_before b 4 _ d3 in
    let d5 = digit_before b 5 _ d4 in
    let d6 = digit_before b 6 _ d5 in
    let d7 = digit_before b 7 _ d6 in
    let whole : b % 2 ^ 8 ≡ b = omega arith in
    d7 ∙ whole

-- bytes below 256
abbrev pub AreBytes : List ℕ → Type 0
AreBytes bytes = (i : ℕ) → get_or bytes i 0 < 256

pub bits_of-append : (xs ys : List ℕ) → bits_of (xs ++ ys) ≡ bits_of xs ++ bits_of ys
bits_of-append [] ys = refl
bits_of-append (x ∷ xs) ys = ap (λ bits. byte_bits x ++ bits) (bits_of-append xs ys) ∙ sym (append_assoc (byte_bits x) (bits_of xs) (bits_of ys))

pub length-bits_of : (bytes : List ℕ) → length (bits_of bytes) ≡ 8 * length bytes
length-bits_of [] = refl
length-bits_of (b ∷ bytes) = omega (arith, length-bits_of bytes)

pub drop-bits_of : (n : ℕ) (bytes : List ℕ) → drop (8 * n) (bits_of bytes) ≡ bits_of (drop n bytes)
drop-bits_of zero bytes = refl
drop-bits_of (suc n) [] = let more : 8 * suc n ≡ suc (8 * n + 7) = omega arith in rw more refl
drop-bits_of (suc n) (b ∷ bytes) = let more : 8 * suc n ≡ suc (suc (suc (suc (suc (suc (suc (suc (8 * n)))))))) = omega arith in rw more (drop-bits_of n bytes)

-- how many bits stand after the first n
pub length-left : (n : ℕ) (bytes : List ℕ) → length (drop n (bits_of bytes)) ≡ 8 * length bytes - n
length-left n bytes = rw (length-drop n (bits_of bytes), length-bits_of bytes) refl

-- the bits after some bytes and bits
pub rest-start : (bytes : List ℕ) (at bit : ℕ) → (skip (8 * at + bit) (start bytes)).rest ≡ drop bit (bits_of (drop at bytes))
rest-start bytes at bit = sym (drop-drop bit (8 * at) (bits_of bytes)) ∙ ap (drop bit) (drop-bits_of at bytes)

pub skip-skip : (m n : ℕ) (p : Place) → skip n (skip m p) ≡ skip (m + n) p
skip-skip m n p = rw (drop-drop n m p.rest, add_assoc p.before m n) refl

-- the number that bytes stand for, most significant first
pub worth : List ℕ → ℕ
worth [] = 0
worth (b ∷ bytes) = b * 2 ^ (8 * length bytes) + worth bytes

pub number-bits_of : (bytes : List ℕ) → AreBytes bytes → number (bits_of bytes) ≡ worth bytes
unfolding worth
number-bits_of [] h = refl
number-bits_of (b ∷ bytes) h = rw (number-append (byte_bits b) (bits_of bytes), number-byte b (h 0), length-bits_of bytes) (ap (λ n. b * 2 ^ (8 * length bytes) + n) (number-bits_of bytes (λ i. h (suc i))))

-- one more byte at the end
pub number-push : (bytes : List ℕ) (b : ℕ) → b < 256 → number (bits_of (bytes ++ b ∷ [])) ≡ 256 * number (bits_of bytes) + b
number-push bytes b h =
    rw (bits_of-append bytes (b ∷ []), number-append (bits_of bytes) (bits_of (b ∷ []))) (omega (arith, number-byte b h))

pub number-bits_of-lt : (bytes : List ℕ) → number (bits_of bytes) < 2 ^ (8 * length bytes)
number-bits_of-lt bytes = rw (← length-bits_of bytes) (number-lt (bits_of bytes))

pub AreBytes-take : (n : ℕ) (bytes : List ℕ) → AreBytes bytes → AreBytes (take n bytes)
AreBytes-take zero bytes h i = omega arith
AreBytes-take (suc n) [] h i = omega arith
AreBytes-take (suc n) (b ∷ bytes) h zero = h 0
AreBytes-take (suc n) (b ∷ bytes) h (suc i) = AreBytes-take n bytes (λ k. h (suc k)) i

-- the first eight bytes as one number
pub number-eight : (bytes more : List ℕ) → 8 ≤ length bytes → AreBytes bytes → number (bits_of (take 8 (bytes ++ more))) ≡ get_or bytes 0 0 * 2 ^ 56 + get_or bytes 1 0 * 2 ^ 48 + get_or bytes 2 0 * 2 ^ 40 + get_or bytes 3 0 * 2 ^ 32 + get_or bytes 4 0 * 2 ^ 24 + get_or bytes 5 0 * 2 ^ 16 + get_or bytes 6 0 * 2 ^ 8 + get_or bytes 7 0
unfolding worth
number-eight (a ∷ b ∷ c ∷ d ∷ e ∷ f ∷ g ∷ h ∷ bytes) more l are =
    omega (arith, number-bits_of (a ∷ b ∷ c ∷ d ∷ e ∷ f ∷ g ∷ h ∷ []) (AreBytes-take 8 (a ∷ b ∷ c ∷ d ∷ e ∷ f ∷ g ∷ h ∷ bytes) are))
number-eight _ more l are = absurd (omega arith)

-- zeros after bytes read as nothing
pub get_or-zeros : (bytes : List ℕ) (n i : ℕ) → get_or (bytes ++ replicate n 0) i 0 ≡ get_or bytes i 0
get_or-zeros [] n i = elim (cases_lt i n) [ inl h ↦ get_or-replicate n i 0 0 h | inr h ↦ get_or_past (replicate n 0) i 0 (rw (length-replicate {A = ℕ} n 0) h) ]
get_or-zeros (b ∷ bytes) n zero = refl
get_or-zeros (b ∷ bytes) n (suc i) = get_or-zeros bytes n i
