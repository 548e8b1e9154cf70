-- `payload_of` undoes `escape`, and at a unit `escape` undoes `payload_of`.
use Rattle.std.proofs.Common.{◌≡◌, ℕ, zero, suc, ◌+◌, ◌<◌, false, List, [], ◌∷◌, ◌++◌, take, drop, arith, refl, ap, sym, ◌∙◌}
use Rattle.std.proofs.lemmas.Bool.{false≢true, lt-leb, le-leb, ltb-false}
use Rattle.annexb.specs.NalUnit.{begins_forbidden, IsUnit}
use Rattle.annexb.specs.EmulationPrevention.{three_byte_before, escape, payload_of}
use Rattle.annexb.proofs.Tails.{IsTail, IsTail-from_unit, IsTail-drop}

-- a byte above 3 takes no 03 before it
three_byte_before-above : (byte : ℕ) (bytes : List ℕ) → 3 < byte → three_byte_before (byte ∷ bytes) ≡ []
three_byte_before-above byte bytes above = rw (lt-leb byte 3 above) refl

-- taking out what was put in
pub payload_of-escape : (payload : List ℕ) → payload_of (escape payload) ≡ payload
payload_of-escape [] = refl
payload_of-escape (zero ∷ []) = refl
payload_of-escape (zero ∷ zero ∷ []) = refl
payload_of-escape (zero ∷ zero ∷ zero ∷ bytes) = ap (λ l. 0 ∷ 0 ∷ l) (payload_of-escape (zero ∷ bytes))
payload_of-escape (zero ∷ zero ∷ suc zero ∷ bytes) = ap (λ l. 0 ∷ 0 ∷ l) (payload_of-escape (suc zero ∷ bytes))
payload_of-escape (zero ∷ zero ∷ suc (suc zero) ∷ bytes) = ap (λ l. 0 ∷ 0 ∷ l) (payload_of-escape (suc (suc zero) ∷ bytes))
payload_of-escape (zero ∷ zero ∷ suc (suc (suc zero)) ∷ bytes) = ap (λ l. 0 ∷ 0 ∷ l) (payload_of-escape (suc (suc (suc zero)) ∷ bytes))
payload_of-escape (zero ∷ zero ∷ suc (suc (suc (suc n))) ∷ bytes) =
    rw (three_byte_before-above (suc (suc (suc (suc n)))) bytes (omega arith)) (ap (λ l. 0 ∷ 0 ∷ suc (suc (suc (suc n))) ∷ l) (payload_of-escape bytes))
payload_of-escape (zero ∷ suc n ∷ bytes) = ap (λ l. 0 ∷ suc n ∷ l) (payload_of-escape bytes)
payload_of-escape (suc n ∷ bytes) = ap (λ l. suc n ∷ l) (payload_of-escape bytes)

-- a payload begins as its unit does
three_byte_before-payload_of : (bytes : List ℕ) → three_byte_before (payload_of bytes) ≡ three_byte_before bytes
three_byte_before-payload_of [] = refl
three_byte_before-payload_of (zero ∷ []) = refl
three_byte_before-payload_of (zero ∷ zero ∷ []) = refl
three_byte_before-payload_of (zero ∷ zero ∷ zero ∷ bytes) = refl
three_byte_before-payload_of (zero ∷ zero ∷ suc zero ∷ bytes) = refl
three_byte_before-payload_of (zero ∷ zero ∷ suc (suc zero) ∷ bytes) = refl
three_byte_before-payload_of (zero ∷ zero ∷ suc (suc (suc zero)) ∷ bytes) = refl
three_byte_before-payload_of (zero ∷ zero ∷ suc (suc (suc (suc n))) ∷ bytes) = refl
three_byte_before-payload_of (zero ∷ suc n ∷ bytes) = refl
three_byte_before-payload_of (suc n ∷ bytes) = refl

-- after 00 00 03 a unit ends, or goes on with a byte of at most 3
three_byte_before-allowed : (bytes : List ℕ) → begins_forbidden (0 ∷ 0 ∷ 3 ∷ bytes) ≡ false → three_byte_before bytes ≡ 3 ∷ []
three_byte_before-allowed [] h = refl
three_byte_before-allowed (byte ∷ bytes) h = rw (le-leb byte 3 (ltb-false 3 byte h)) refl

-- putting in what was taken out
escape-payload_of_tail : (bytes : List ℕ) → IsTail bytes → escape (payload_of bytes) ≡ bytes
escape-payload_of_tail [] h = refl
escape-payload_of_tail (zero ∷ []) h = refl
escape-payload_of_tail (zero ∷ zero ∷ []) h = absurd (h.ends 1 refl refl)
escape-payload_of_tail (zero ∷ zero ∷ zero ∷ bytes) h = absurd (false≢true (sym (h.allowed 0)))
escape-payload_of_tail (zero ∷ zero ∷ suc zero ∷ bytes) h = absurd (false≢true (sym (h.allowed 0)))
escape-payload_of_tail (zero ∷ zero ∷ suc (suc zero) ∷ bytes) h = absurd (false≢true (sym (h.allowed 0)))
escape-payload_of_tail (zero ∷ zero ∷ suc (suc (suc zero)) ∷ bytes) h =
    rw (three_byte_before-payload_of bytes, three_byte_before-allowed bytes (h.allowed 0)) (ap (λ l. 0 ∷ 0 ∷ 3 ∷ l) (escape-payload_of_tail bytes (IsTail-drop 3 _ h)))
escape-payload_of_tail (zero ∷ zero ∷ suc (suc (suc (suc n))) ∷ bytes) h =
    rw (lt-leb (suc (suc (suc (suc n)))) 3 (omega arith)) (ap (λ l. 0 ∷ 0 ∷ suc (suc (suc (suc n))) ∷ l) (escape-payload_of_tail bytes (IsTail-drop 3 _ h)))
escape-payload_of_tail (zero ∷ suc n ∷ bytes) h = ap (λ l. 0 ∷ suc n ∷ l) (escape-payload_of_tail bytes (IsTail-drop 2 _ h))
escape-payload_of_tail (suc n ∷ bytes) h = ap (λ l. suc n ∷ l) (escape-payload_of_tail bytes (IsTail-drop 1 _ h))

-- at a unit a payload is the one list of which the unit is the escape
pub escape-payload_of : (unit : List ℕ) → IsUnit unit → escape (payload_of unit) ≡ unit
escape-payload_of unit h = escape-payload_of_tail unit (IsTail-from_unit unit h)

pub payload_of-only : (unit payload : List ℕ) → escape payload ≡ unit → payload_of unit ≡ payload
payload_of-only unit payload e = ap payload_of (sym e) ∙ payload_of-escape payload

-- 00 00 03 stands at the start of the bytes
abbrev pub BeginsEscaped : List ℕ → Type 0
BeginsEscaped bytes = (rest : List ℕ) × (bytes ≡ 0 ∷ 0 ∷ 3 ∷ rest)

-- a byte that doesn't begin 00 00 03 stays
payload_of-cons : (byte : ℕ) (bytes : List ℕ) → ¬ BeginsEscaped (byte ∷ bytes) → payload_of (byte ∷ bytes) ≡ byte ∷ payload_of bytes
payload_of-cons zero [] h = refl
payload_of-cons zero (zero ∷ []) h = refl
payload_of-cons zero (zero ∷ zero ∷ bytes) h = refl
payload_of-cons zero (zero ∷ suc zero ∷ bytes) h = refl
payload_of-cons zero (zero ∷ suc (suc zero) ∷ bytes) h = refl
payload_of-cons zero (zero ∷ suc (suc (suc zero)) ∷ bytes) h = absurd (h (bytes, refl))
payload_of-cons zero (zero ∷ suc (suc (suc (suc n))) ∷ bytes) h = refl
payload_of-cons zero (suc n ∷ bytes) h = refl
payload_of-cons (suc n) bytes h = refl

-- bytes without 00 00 03 are their own payload
pub payload_of-plain : (bytes : List ℕ) → ((at : ℕ) → ¬ BeginsEscaped (drop at bytes)) → payload_of bytes ≡ bytes
payload_of-plain [] h = refl
payload_of-plain (byte ∷ bytes) h =
    payload_of-cons byte bytes (h 0) ∙ ap (λ l. byte ∷ l) (payload_of-plain bytes (λ at. h (suc at)))

-- up to the first 00 00 03, and past it
pub payload_of-escaped : (at : ℕ) (bytes rest : List ℕ) → ((k : ℕ) → k < at → ¬ BeginsEscaped (drop k bytes))
    → drop at bytes ≡ 0 ∷ 0 ∷ 3 ∷ rest → payload_of bytes ≡ take (at + 2) bytes ++ payload_of rest
payload_of-escaped zero bytes rest h e = rw e refl
payload_of-escaped (suc at) [] rest h e = cc
payload_of-escaped (suc at) (byte ∷ bytes) rest h e =
    let shifted : suc at + 2 ≡ suc (at + 2) = omega arith in
    payload_of-cons byte bytes (h 0 (omega arith)) ∙ rw shifted (ap (λ l. byte ∷ l) (payload_of-escaped at bytes rest (λ k below. h (suc k) (omega arith)) e))
