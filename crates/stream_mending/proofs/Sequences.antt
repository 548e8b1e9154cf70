-- The search for sequences that no NAL unit holds.
use Rattle.std.proofs.Common.{◌≡◌, ℕ, zero, suc, ◌+◌, ◌<◌, ⊎_elim, true, false, List, [], ◌∷◌, ◌++◌, length, take, drop, arith, refl, ap, sym, ◌∙◌, length-drop}
use Rattle.std.proofs.lemmas.Bool.{false≢true, or_parts, cases_lt}
use Rattle.std.proofs.lemmas.List.{take-append-drop, length-take-le, drop-drop}
use Rattle.memchr.specs.Find.{OccursAt, Nowhere, NoneBefore}
use Rattle.annexb.specs.NalUnit.{begins_forbidden}
use Rattle.annexb.proofs.Needles.{OccursAt-from_drop}
use Rattle.stream_mending.specs.Faults.{has_forbidden}

-- no two zeros begin the bytes
abbrev pub NoZeros : List ℕ → Type 0
NoZeros bytes = (rest : List ℕ) → bytes ≡ 0 ∷ 0 ∷ rest → ⊥

past : (byte : ℕ) (bytes : List ℕ) → NoZeros (byte ∷ bytes) → has_forbidden (byte ∷ bytes) ≡ has_forbidden bytes
past zero [] none = refl
past zero (zero ∷ bytes) none = absurd (none bytes refl)
past zero (suc n ∷ bytes) none = refl
past (suc n) bytes none = refl

skip : (front rest : List ℕ) → ((k : ℕ) → k < length front → NoZeros (drop k (front ++ rest)))
    → has_forbidden (front ++ rest) ≡ has_forbidden rest
skip [] rest none = refl
skip (byte ∷ front) rest none =
    past byte (front ++ rest) (none 0 (omega arith)) ∙ skip front rest (λ k below. none (suc k) (omega arith))

pub no_zeros : (bytes : List ℕ) → ((k : ℕ) → NoZeros (drop k bytes)) → has_forbidden bytes ≡ false
no_zeros [] none = refl
no_zeros (byte ∷ bytes) none = past byte bytes (none 0) ∙ no_zeros bytes (λ k. none (suc k))

abbrev pub zeros : List ℕ
zeros = 0 ∷ 0 ∷ []

no_two : (bytes : List ℕ) (bound : ℕ) → Nowhere (OccursAt bytes zeros) 0 bound → (k : ℕ) → k < bound → NoZeros (drop k bytes)
no_two bytes bound nowhere k below rest e =
    nowhere k (omega arith) below (OccursAt-from_drop bytes zeros rest k (omega arith) e)

-- up to the next two zeros
pub up_to_zeros : (bytes : List ℕ) (ahead : ℕ)
    → NoneBefore (OccursAt bytes zeros) 0 (length bytes + 1) ahead × OccursAt bytes zeros ahead
    → has_forbidden bytes ≡ has_forbidden (drop ahead bytes)
up_to_zeros bytes ahead (none, occurs) =
    let whole : take ahead bytes ++ drop ahead bytes ≡ bytes = take-append-drop ahead bytes in
    let size : length (take ahead bytes) ≡ ahead = length-take-le ahead bytes (omega (arith, occurs.fits)) in
    ap has_forbidden (sym whole)
    ∙ skip (take ahead bytes) (drop ahead bytes) (λ k below rest e.
    no_two bytes ahead none.before k (omega arith) rest (ap (drop k) (sym whole) ∙ e))

-- where there are none
pub none_found : (bytes : List ℕ) → Nowhere (OccursAt bytes zeros) 0 (length bytes + 1) → has_forbidden bytes ≡ false
none_found bytes nowhere =
    no_zeros bytes (λ k. ⊎_elim
    (λ inside. no_two bytes (length bytes + 1) nowhere k (omega arith))
    (λ past rest e. omega (arith, ap length e, length-drop k bytes))
    (cases_lt k (length bytes)))

-- one that begins the bytes
pub forbidden_here : (bytes : List ℕ) → begins_forbidden bytes ≡ true → has_forbidden bytes ≡ true
forbidden_here [] h = absurd (false≢true h)
forbidden_here (byte ∷ bytes) h = rw h refl

-- where none begins them
pub forbidden_later : (bytes : List ℕ) → begins_forbidden bytes ≡ false → has_forbidden bytes ≡ has_forbidden (drop 1 bytes)
forbidden_later [] h = refl
forbidden_later (byte ∷ bytes) h = rw h refl

-- where there is none, none begins at a place
pub allowed_at : (bytes : List ℕ) → has_forbidden bytes ≡ false → (at : ℕ) → begins_forbidden (drop at bytes) ≡ false
allowed_at [] h zero = refl
allowed_at [] h (suc at) = refl
allowed_at (byte ∷ bytes) h zero = (or_parts (begins_forbidden (byte ∷ bytes)) (has_forbidden bytes) h).0
allowed_at (byte ∷ bytes) h (suc at) = allowed_at bytes (or_parts (begins_forbidden (byte ∷ bytes)) (has_forbidden bytes) h).1 at

-- the search goes on past two zeros, or ends there
module _ (bytes : List ℕ) (at ahead : ℕ)
    (found : NoneBefore (OccursAt (drop at bytes) zeros) 0 (length (drop at bytes) + 1) ahead × OccursAt (drop at bytes) zeros ahead) where
  up_to : has_forbidden (drop at bytes) ≡ has_forbidden (drop (at + ahead) bytes)
  up_to = up_to_zeros (drop at bytes) ahead found ∙ ap has_forbidden (drop-drop ahead at bytes)

  pub found_here : begins_forbidden (drop (at + ahead) bytes) ≡ true → has_forbidden (drop at bytes) ≡ true
  found_here here = up_to ∙ forbidden_here (drop (at + ahead) bytes) here

  pub found_later : begins_forbidden (drop (at + ahead) bytes) ≡ false
      → has_forbidden (drop (at + (ahead + 1)) bytes) ≡ has_forbidden (drop at bytes)
  found_later none =
      sym (up_to ∙ forbidden_later (drop (at + ahead) bytes) none
      ∙ ap has_forbidden (drop-drop 1 (at + ahead) bytes ∙ ap (λ n. drop n bytes) (omega arith)))
