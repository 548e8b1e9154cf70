-- Bytes without the zeros at their end.
use Rattle.std.proofs.Common.{◌≡◌, ◌≢◌, ℕ, zero, suc, ◌+◌, ◌-◌, ◌<◌, ◌≤◌, List, [], ◌∷◌, ◌++◌, length, take, get_or, replicate, arith, refl, ap, sym, ◌∙◌, length-append}
use Rattle.std.proofs.lemmas.List.{length-replicate, take_more}
use Rattle.stream_mending.specs.Segments.{before_others, trimmed, end_zeros}

-- with a zero more
pub trimmed-zero : (bytes : List ℕ) → trimmed (bytes ++ 0 ∷ []) ≡ trimmed bytes
trimmed-zero [] = refl
trimmed-zero (byte ∷ bytes) = ap (before_others byte) (trimmed-zero bytes)

some_others : (byte next : ℕ) (bytes : List ℕ) → before_others byte (next ∷ bytes) ≡ byte ∷ next ∷ bytes
some_others zero next bytes = refl
some_others (suc n) next bytes = refl

-- with another byte more nothing is left out
pub trimmed-other : (bytes : List ℕ) (last : ℕ) → last ≢ 0 → trimmed (bytes ++ last ∷ []) ≡ bytes ++ last ∷ []
trimmed-other [] zero some = absurd (some refl)
trimmed-other [] (suc n) some = refl
trimmed-other (byte ∷ []) last some = ap (before_others byte) (trimmed-other [] last some) ∙ some_others byte last []
trimmed-other (byte ∷ next ∷ bytes) last some =
    ap (before_others byte) (trimmed-other (next ∷ bytes) last some) ∙ some_others byte next (bytes ++ last ∷ [])

-- bytes are those, and zeros
trimmed_with : (bytes : List ℕ) → (count : ℕ) × (bytes ≡ trimmed bytes ++ replicate count 0)
trimmed_with [] = (0, refl)
trimmed_with (byte ∷ bytes) = more byte (trimmed bytes) (trimmed_with bytes).0 (trimmed_with bytes).1
  where
    more : (byte : ℕ) (front : List ℕ) (count : ℕ) → bytes ≡ front ++ replicate count 0
        → (count' : ℕ) × (byte ∷ bytes ≡ before_others byte front ++ replicate count' 0)
    more zero [] count e = (suc count, ap (λ l. 0 ∷ l) e)
    more zero (next ∷ front) count e = (count, ap (λ l. 0 ∷ l) e)
    more (suc n) front count e = (count, ap (λ l. suc n ∷ l) e)

pub trimmed-zeros : (bytes : List ℕ) → bytes ≡ trimmed bytes ++ replicate (end_zeros bytes) 0
trimmed-zeros bytes =
    let with_zeros = trimmed_with bytes in
    let count : with_zeros.0 ≡ end_zeros bytes =
    omega (arith, ap length with_zeros.1, length-append (trimmed bytes) (replicate with_zeros.0 0), length-replicate {A = ℕ} with_zeros.0 0) in
    with_zeros.1 ∙ ap (λ n. trimmed bytes ++ replicate n 0) count

-- the last byte of some, a zero
pub trimmed-last_zero : (bytes : List ℕ) (len : ℕ) → 0 < len → len ≤ length bytes → get_or bytes (len - 1) 0 ≡ 0
    → trimmed (take (len - 1) bytes) ≡ trimmed (take len bytes)
trimmed-last_zero bytes len some within zero_there =
    let last : len ≡ (len - 1) + 1 = omega arith in
    let more : take len bytes ≡ take (len - 1) bytes ++ 0 ∷ [] =
    ap (λ n. take n bytes) last ∙ take_more bytes (len - 1) 0 (omega arith) ∙ ap (λ b. take (len - 1) bytes ++ b ∷ []) zero_there in
    sym (ap trimmed more ∙ trimmed-zero (take (len - 1) bytes))

-- or another
pub trimmed-last : (bytes : List ℕ) (len : ℕ) → 0 < len → len ≤ length bytes → get_or bytes (len - 1) 0 ≢ 0
    → take len bytes ≡ trimmed (take len bytes)
trimmed-last bytes len some within other =
    let last : len ≡ (len - 1) + 1 = omega arith in
    let more : take len bytes ≡ take (len - 1) bytes ++ get_or bytes (len - 1) 0 ∷ [] =
    ap (λ n. take n bytes) last ∙ take_more bytes (len - 1) 0 (omega arith) in
    more ∙ sym (ap trimmed more ∙ trimmed-other (take (len - 1) bytes) (get_or bytes (len - 1) 0) other)

-- with none left
pub trimmed-none : (bytes : List ℕ) (len : ℕ) → len ≡ 0 → take len bytes ≡ trimmed (take len bytes)
trimmed-none bytes len none = ap (λ n. take n bytes) none ∙ sym (ap (λ n. trimmed (take n bytes)) none)

-- trimmed bytes don't end in a zero
pub trimmed_ends : (bytes : List ℕ) (last : ℕ) → last + 1 ≡ length (trimmed bytes) → get_or (trimmed bytes) last 0 ≢ 0
trimmed_ends [] last at = absurd (omega arith)
trimmed_ends (byte ∷ bytes) last at = more byte (trimmed bytes) last (trimmed_ends bytes) at
  where
    more : (byte : ℕ) (front : List ℕ) (last : ℕ) → ((k : ℕ) → k + 1 ≡ length front → get_or front k 0 ≢ 0)
        → last + 1 ≡ length (before_others byte front) → get_or (before_others byte front) last 0 ≢ 0
    more zero [] last h at = absurd (omega arith)
    more zero (next ∷ front) zero h at = absurd (omega arith)
    more zero (next ∷ front) (suc last) h at = h last (omega arith)
    more (suc n) [] zero h at = λ e. omega arith
    more (suc n) [] (suc last) h at = absurd (omega arith)
    more (suc n) (next ∷ front) zero h at = absurd (omega arith)
    more (suc n) (next ∷ front) (suc last) h at = h last (omega arith)

-- of bytes that are cut where they are trimmed, the first part
pub trimmed-take : (bytes front : List ℕ) → front ≡ trimmed bytes → (last : ℕ) → last + 1 ≡ length front → get_or front last 0 ≢ 0
trimmed-take bytes front e last at = rw e (trimmed_ends bytes last (rw e at at))
