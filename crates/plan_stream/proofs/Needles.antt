-- The next start code of what is left, as a search finds it.
use Rattle.std.proofs.Common.{◌≡◌, ℕ, zero, suc, ◌+◌, ◌<◌, ◌≤◌, ⊎_elim, Bool, true, false, ◌&&◌, ◌||◌, List, [], ◌∷◌, ◌++◌, length, drop, arith, refl, ap, ◌∙◌, length-drop, append-nil, IfSome}
use Rattle.std.proofs.lemmas.Bool.{cases_lt}
use Rattle.std.proofs.lemmas.List.{drop-drop}
use Rattle.memchr.specs.Find.{OccursAt, Nowhere, NoneBefore}
use Rattle.annexb.specs.ByteStream.{start_code}
use Rattle.annexb.specs.NalUnit.{is_slice}
use Rattle.annexb.specs.AccessUnits.{begins_access_unit}
use Rattle.annexb.proofs.Needles.{drop-occurs, OccursAt-from_drop}
use Rattle.std.specs.Bool.{then_some}
use Rattle.plan_stream.specs.Fronts.{front_len}
use Rattle.plan_stream.specs.Seen.{IsSeen}
use Rattle.plan_stream.proofs.Lengths.{ends_at_code, past_code}

-- no start code begins the bytes
abbrev pub NoCode : List ℕ → Type 0
NoCode bytes = (rest : List ℕ) → bytes ≡ start_code ++ rest → ⊥

-- one byte more, where none does and it would be seen
past_byte : (has_slice : Bool) (byte : ℕ) (bytes more : List ℕ) → NoCode (byte ∷ bytes) → 2 ≤ length bytes
    → front_len has_slice (byte ∷ (bytes ++ more)) ≡ 1 + front_len has_slice (bytes ++ more)
past_byte has_slice byte [] more none some = absurd (omega arith)
past_byte has_slice byte (second ∷ []) more none some = absurd (omega arith)
past_byte has_slice zero (zero ∷ zero ∷ bytes) more none some = refl
past_byte has_slice zero (zero ∷ suc zero ∷ bytes) more none some = absurd (none bytes refl)
past_byte has_slice zero (zero ∷ suc (suc n) ∷ bytes) more none some = refl
past_byte has_slice zero (suc n ∷ third ∷ bytes) more none some = refl
past_byte has_slice (suc n) (second ∷ third ∷ bytes) more none some = refl

-- up to the first start code
pub up_to_code : (has_slice : Bool) (bytes more : List ℕ) (ahead : ℕ) → ahead + 3 ≤ length bytes
    → ((k : ℕ) → k < ahead → NoCode (drop k bytes))
    → front_len has_slice (bytes ++ more) ≡ ahead + front_len has_slice (drop ahead bytes ++ more)
up_to_code has_slice bytes more zero fits none = omega arith
up_to_code has_slice [] more (suc ahead) fits none = absurd (omega arith)
up_to_code has_slice (byte ∷ bytes) more (suc ahead) fits none =
    omega (
      arith,
      past_byte has_slice byte bytes more (none 0 (omega arith)) (omega arith),
      up_to_code has_slice bytes more ahead (omega arith) (λ k below. none (suc k) (omega arith)),
    )

-- up to the end, where there is none
pub up_to_end : (has_slice : Bool) (bytes : List ℕ) → ((k : ℕ) → NoCode (drop k bytes)) → front_len has_slice bytes ≡ length bytes
up_to_end has_slice [] none = refl
up_to_end has_slice (zero ∷ []) none = refl
up_to_end has_slice (zero ∷ zero ∷ []) none = refl
up_to_end has_slice (zero ∷ zero ∷ zero ∷ bytes) none = omega (arith, up_to_end has_slice (zero ∷ zero ∷ bytes) (λ k. none (suc k)))
up_to_end has_slice (zero ∷ zero ∷ suc zero ∷ bytes) none = absurd (none 0 bytes refl)
up_to_end has_slice (zero ∷ zero ∷ suc (suc n) ∷ bytes) none = omega (arith, up_to_end has_slice (zero ∷ suc (suc n) ∷ bytes) (λ k. none (suc k)))
up_to_end has_slice (zero ∷ suc n ∷ bytes) none = omega (arith, up_to_end has_slice (suc n ∷ bytes) (λ k. none (suc k)))
up_to_end has_slice (suc n ∷ bytes) none = omega (arith, up_to_end has_slice bytes (λ k. none (suc k)))

-- where a search finds it
module _ (bytes : List ℕ) (at : ℕ) where
  -- what stands there
  pub code_there : (ahead : ℕ) → OccursAt (drop at bytes) (0 ∷ 0 ∷ 1 ∷ []) ahead
      → drop ahead (drop at bytes) ≡ start_code ++ drop (at + ahead + 3) bytes
  code_there ahead occurs =
      drop-occurs (drop at bytes) (0 ∷ 0 ∷ 1 ∷ []) ahead occurs
      ∙ ap (λ l. start_code ++ l) (drop-drop (ahead + 3) at bytes ∙ ap (λ n. drop n bytes) (omega arith))

  no_code : (bound : ℕ) → Nowhere (OccursAt (drop at bytes) (0 ∷ 0 ∷ 1 ∷ [])) 0 bound → (k : ℕ) → k < bound → NoCode (drop k (drop at bytes))
  no_code bound nowhere k below rest e =
      nowhere k (omega arith) below (OccursAt-from_drop (drop at bytes) (0 ∷ 0 ∷ 1 ∷ []) rest k (omega arith) e)

  pub found_code : (has_slice : Bool) (more : List ℕ) (ahead : ℕ)
      → NoneBefore (OccursAt (drop at bytes) (0 ∷ 0 ∷ 1 ∷ [])) 0 (length (drop at bytes) + 1) ahead × OccursAt (drop at bytes) (0 ∷ 0 ∷ 1 ∷ []) ahead
      → front_len has_slice (drop at bytes ++ more) ≡ ahead + front_len has_slice (start_code ++ (drop (at + ahead + 3) bytes ++ more))
  found_code has_slice more ahead (none, occurs) =
      up_to_code has_slice (drop at bytes) more ahead occurs.fits (no_code ahead none.before)
      ∙ ap (λ l. ahead + front_len has_slice (l ++ more)) (code_there ahead occurs)

  -- and where it finds none
  pub found_none : (has_slice : Bool) → Nowhere (OccursAt (drop at bytes) (0 ∷ 0 ∷ 1 ∷ [])) 0 (length (drop at bytes) + 1)
      → front_len has_slice (drop at bytes) ≡ length (drop at bytes)
  found_none has_slice nowhere =
      up_to_end has_slice (drop at bytes) (λ k. ⊎_elim
      (λ inside. no_code (length (drop at bytes) + 1) nowhere k (omega arith))
      (λ past rest e. omega (arith, ap length e, length-drop k (drop at bytes)))
      (cases_lt k (length (drop at bytes))))

-- where the text ends at the next start code, and where it goes on past it
module _ (bytes more : List ℕ) (at ahead : ℕ) (has_slice : Bool)
    (found : NoneBefore (OccursAt (drop at bytes) (0 ∷ 0 ∷ 1 ∷ [])) 0 (length (drop at bytes) + 1) ahead × OccursAt (drop at bytes) (0 ∷ 0 ∷ 1 ∷ []) ahead)
    (seen : IsSeen (drop (at + ahead + 3) bytes) more) where
  pub step_ends : (has_slice && begins_access_unit (drop (at + ahead + 3) bytes)) ≡ true
      → front_len has_slice (drop at bytes ++ more) ≡ ahead
  step_ends there =
      let none = ends_at_code has_slice (drop (at + ahead + 3) bytes) more seen there in
      let here = found_code bytes at has_slice more ahead found in
      omega (arith, here, none)

  pub step_goes : (has_slice && begins_access_unit (drop (at + ahead + 3) bytes)) ≡ false
      → front_len has_slice (drop at bytes ++ more)
      ≡ ahead + (3 + front_len (has_slice || is_slice (drop (at + ahead + 3) bytes)) (drop (at + ahead + 3) bytes ++ more))
  step_goes none =
      found_code bytes at has_slice more ahead found
      ∙ ap (λ n. ahead + n) (past_code has_slice (drop (at + ahead + 3) bytes) more seen none)

-- where no start code is left, the text ends with the bytes if they are all
pub end_found : (bytes : List ℕ) (at : ℕ) (has_slice is_over : Bool) → at ≤ length bytes
    → ((more : List ℕ) → (is_over ≡ true → more ≡ []) → front_len false (bytes ++ more) ≡ at + front_len has_slice (drop at bytes ++ more))
    → Nowhere (OccursAt (drop at bytes) (0 ∷ 0 ∷ 1 ∷ [])) 0 (length (drop at bytes) + 1)
    → IfSome (then_some is_over (length bytes)) (λ len. (more : List ℕ) → (is_over ≡ true → more ≡ []) → front_len false (bytes ++ more) ≡ len)
end_found bytes at has_slice false within so_far none = tt
end_found bytes at has_slice true within so_far none = λ more over.
    let nothing : drop at bytes ++ more ≡ drop at bytes = ap (λ l. drop at bytes ++ l) (over refl) ∙ append-nil (drop at bytes) in
    so_far more over ∙ ap (λ l. at + front_len has_slice l) nothing
    ∙ omega (arith, found_none bytes at has_slice none, length-drop at bytes)
