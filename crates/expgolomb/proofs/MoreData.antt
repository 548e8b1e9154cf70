-- Where a 1 stands among bits: where the number that they stand for isn't 0.
use Rattle.std.proofs.Common.{◌≡◌, ℕ, zero, suc, ◌+◌, ◌-◌, ◌^◌, ◌%◌, ◌<◌, ◌≤◌, ◌↔◌, Bool, true, false, not, List, [], ◌∷◌, ◌++◌, length, take, drop, get_or, refl, sym, ◌∙◌, ap, arith, inl, inr, ◌⊎◌, Contains, eqb, eq-eqb}
use Rattle.std.specs.List.{list_any}
use Rattle.std.proofs.lemmas.Bool.{cases_eq, ne_eqb}
use Rattle.std.proofs.lemmas.Nat.{pow_pos}
use Rattle.std.proofs.lemmas.List.{take-append-drop, length-drop, drop-append-le}
use Rattle.std.proofs.lemmas.List.Elements.{Contains-append_left, Contains-append_right, Contains-append_cases}
use Rattle.expgolomb.specs.Bits.{number, bits_of, byte_bits}
use Rattle.expgolomb.proofs.Numbers.{number-byte, AreBytes}
use Rattle.expgolomb.proofs.Windows.{number-mod}

positive : (bits : List Bool) (k : ℕ) → k < length bits → get_or bits k true ≡ true → 0 < number bits
positive [] k h is = absurd (omega arith)
positive (true ∷ bits) k h is = omega (arith, pow_pos (length bits))
positive (false ∷ bits) zero h is = cc
positive (false ∷ bits) (suc k) h is = omega (arith, positive bits k (omega arith) is)

-- a number that isn't 0 has a 1
pub one_in : (bits : List Bool) → 0 < number bits → Contains bits true
one_in [] h = absurd (omega arith)
one_in (true ∷ bits) h = (0, omega arith, refl)
one_in (false ∷ bits) h = let one = one_in bits (omega arith) in (suc one.0, omega (arith, one.1), one.2)

pub contains_one : (bits : List Bool) → Contains bits true ↔ (0 < number bits)
contains_one bits = (λ one. positive bits one.0 one.1 one.2, one_in bits)

-- the low bits of a byte
pub number-low : (byte k : ℕ) → byte < 256 → k ≤ 8 → number (drop k (byte_bits byte)) ≡ byte % 2 ^ (8 - k)
number-low byte k h le =
    let bits = byte_bits byte in
    let left : length (drop k bits) ≡ 8 - k = length-drop k bits in
    sym (number-mod (take k bits) (drop k bits)) ∙ (ap (λ (xs : List Bool). number xs % 2 ^ length (drop k bits)) (take-append-drop k bits) ∙ (ap (λ n. n % 2 ^ length (drop k bits)) (number-byte byte h) ∙ ap (λ n. byte % 2 ^ n) left))

-- a 1 after k bits of a byte and the bytes after it
pub one_past : (byte k : ℕ) (more : List ℕ) → byte < 256 → k ≤ 8 → (0 < byte % 2 ^ (8 - k)) ⊎ Contains (bits_of more) true → Contains (drop k (byte_bits byte ++ bits_of more)) true
one_past byte k more h le (inl low) = rw (drop-append-le k (byte_bits byte) (bits_of more) le) (Contains-append_left (drop k (byte_bits byte)) (bits_of more) true (one_in (drop k (byte_bits byte)) (rw (number-low byte k h le) low)))
one_past byte k more h le (inr after) = rw (drop-append-le k (byte_bits byte) (bits_of more) le) (Contains-append_right (drop k (byte_bits byte)) (bits_of more) true after)

pub past_one : (byte k : ℕ) (more : List ℕ) → byte < 256 → k ≤ 8 → Contains (drop k (byte_bits byte ++ bits_of more)) true → (0 < byte % 2 ^ (8 - k)) ⊎ Contains (bits_of more) true
past_one byte k more h le one =
    elim (Contains-append_cases (drop k (byte_bits byte)) (bits_of more) true (rw (drop-append-le k (byte_bits byte) (bits_of more) le) at one)) [
      | inl low ↦ inl (let some = positive (drop k (byte_bits byte)) low.0 low.1 low.2 in omega (arith, number-low byte k h le))
      | inr after ↦ inr after
    ]

-- a byte that isn't 0 has a 1
pub any_one : (bytes : List ℕ) → AreBytes bytes → (list_any (λ byte. not (eqb byte 0)) bytes ≡ true → Contains (bits_of bytes) true) × (Contains (bits_of bytes) true → list_any (λ byte. not (eqb byte 0)) bytes ≡ true)
any_one [] are = (λ is. cc, λ one. absurd (omega (arith, one.1)))
any_one (byte ∷ bytes) are =
    let after = any_one bytes (λ i. are (suc i)) in (
      λ is. one_past byte 0 bytes (are 0) (omega arith)
          (elim (cases_eq byte 0) [
            | inl none ↦ inr (after.0 (rw (eq-eqb byte 0 none) at is))
            | inr some ↦ inl (omega (arith, are 0, some))
          ]),
      λ one. elim (past_one byte 0 bytes (are 0) (omega arith) one) [
        | inl low ↦ rw (ne_eqb byte 0 (λ none. omega arith)) refl
        | inr more ↦ elim (cases_eq byte 0) [
          | inl none ↦ rw (eq-eqb byte 0 none) (after.1 more)
          | inr some ↦ rw (ne_eqb byte 0 some) refl
        ]
      ],
    )

-- a byte whose low bits aren't 0 has a 1 among them
pub low_one : (bytes : List ℕ) (bit low : ℕ) → AreBytes bytes → 1 ≤ length bytes → bit < 8 → low ≡ get_or bytes 0 0 % 2 ^ (7 - bit) → (low ≡ 0 → ⊥) → Contains (drop (bit + 1) (bits_of bytes)) true
low_one [] bit low are some h is not_zero = absurd (omega arith)
low_one (byte ∷ bytes) bit low are some h is not_zero =
    let left : 8 - (bit + 1) ≡ 7 - bit = omega arith in
    one_past byte (bit + 1) bytes (are 0) (omega arith) (inl (rw left (omega (arith, not_zero))))

-- after a byte whose low bits are 0 a 1 stands in the bytes after it
pub more_one : (bytes : List ℕ) (bit low : ℕ) (answer : Bool) → AreBytes bytes → 1 ≤ length bytes → bit < 8 → low ≡ get_or bytes 0 0 % 2 ^ (7 - bit) → low ≡ 0 → answer ≡ list_any (λ byte. not (eqb byte 0)) (drop 1 bytes) → answer ≡ true ↔ Contains (drop (bit + 1) (bits_of bytes)) true
more_one [] bit low answer are some h is none told = absurd (omega arith)
more_one (byte ∷ bytes) bit low answer are some h is none told =
    let left : 8 - (bit + 1) ≡ 7 - bit = omega arith in
    let after = any_one bytes (λ i. are (suc i)) in (
      λ yes. one_past byte (bit + 1) bytes (are 0) (omega arith) (inr (after.0 (sym told ∙ yes))),
      λ one. elim (past_one byte (bit + 1) bytes (are 0) (omega arith) one) [ inl low' ↦ absurd (omega (arith, rw left at low')) | inr more ↦ told ∙ after.1 more ],
    )
