-- What is left of a unit past some of its bytes.
use Rattle.std.proofs.Common.{◌≡◌, ℕ, zero, suc, ◌+◌, ◌-◌, ◌<◌, ⊎_elim, true, false, ◌&&◌, eqb, ltb, List, [], ◌∷◌, ◌++◌, length, take, drop, get_or, arith, refl, ap, sym, ◌∙◌}
use Rattle.std.proofs.lemmas.Bool.{false≢true, both_ways, false_from_ne_true, or_left, or_cases, and_parts, cases_lt}
use Rattle.std.proofs.lemmas.List.{take-append-drop, length-take-le, get_or-take, drop-take, drop_all}
use Rattle.annexb.specs.NalUnit.{begins_forbidden, IsUnit}
use Rattle.annexb.specs.Search.{IsScanned}

-- the bytes are nothing, or don't end in 00, and at none of their places stands a forbidden sequence
pub record IsTail (bytes : List ℕ) : Type 0 where
  pub ends : (last : ℕ) → last + 1 ≡ length bytes → get_or bytes last 0 ≡ 0 → ⊥
  pub allowed : (at : ℕ) → begins_forbidden (drop at bytes) ≡ false

-- a unit is one
pub IsTail-from_unit : (unit : List ℕ) → IsUnit unit → IsTail unit
IsTail-from_unit unit h = record {
  ends = λ last at_end. let e : last ≡ length unit - 1 = omega arith in rw e h.ends;
  allowed = h.allowed;
}

-- and so is what is left past some bytes
pub IsTail-drop : (count : ℕ) (bytes : List ℕ) → IsTail bytes → IsTail (drop count bytes)
IsTail-drop zero bytes h = h
IsTail-drop (suc count) [] h = h
IsTail-drop (suc count) (byte ∷ bytes) h =
    IsTail-drop count bytes (record { ends = λ last at_end. h.ends (suc last) (omega arith); allowed = λ at. h.allowed (suc at) })

-- a forbidden sequence at the front stays, whatever follows
begins_forbidden-append : (front rest : List ℕ) → begins_forbidden front ≡ true → begins_forbidden (front ++ rest) ≡ true
begins_forbidden-append [] rest h = absurd (false≢true h)
begins_forbidden-append (zero ∷ []) rest h = absurd (false≢true h)
begins_forbidden-append (zero ∷ zero ∷ []) rest h = absurd (false≢true h)
begins_forbidden-append (zero ∷ zero ∷ byte ∷ []) rest h =
    ⊎_elim (λ below. or_left _ _ below) (λ above. absurd (false≢true (and_parts (eqb byte 3) false above).1)) (or_cases (ltb byte 3) (eqb byte 3 && false) h)
begins_forbidden-append (zero ∷ zero ∷ byte ∷ next ∷ front) rest h = h
begins_forbidden-append (zero ∷ suc n ∷ front) rest h = absurd (false≢true h)
begins_forbidden-append (suc n ∷ front) rest h = absurd (false≢true h)

begins_forbidden-take : (count : ℕ) (bytes : List ℕ) → begins_forbidden bytes ≡ false → begins_forbidden (take count bytes) ≡ false
begins_forbidden-take count bytes h =
    false_from_ne_true _ (λ there. both_ways _ h (rw take-append-drop at (begins_forbidden-append (take count bytes) (drop count bytes) there)))

-- scanned bytes, if there are any, are a unit
pub IsUnit-from_scanned : (bytes : List ℕ) (len : ℕ) → 0 < len → IsScanned bytes len → IsUnit (take len bytes)
IsUnit-from_scanned bytes len some scanned =
    let size = length-take-le len bytes scanned.in_range in record {
      filled = omega arith;
      ends = λ zero_there. scanned.ends (len - 1) (omega arith) (sym (get_or-take len bytes (len - 1) 0 (omega arith)) ∙ rw size at zero_there);
      allowed = λ at. ⊎_elim
          (λ inside. let whole : len ≡ at + (len - at) = omega arith in
          rw (ap (λ n. drop at (take n bytes)) whole ∙ drop-take at (len - at) bytes) (begins_forbidden-take (len - at) (drop at bytes) (scanned.allowed at inside)))
          (λ past. rw (drop_all at (take len bytes) (omega arith)) refl)
          (cases_lt at len);
    }
