-- How far a unit may reach, as the search for zeros goes on.
use Rattle.std.proofs.Common.{◌≡◌, ◌≢◌, ℕ, zero, suc, ◌+◌, ◌-◌, ◌<◌, ◌≤◌, ◌⊎◌, inl, inr, ⊎_elim, false, List, [], ◌∷◌, ◌++◌, length, drop, replicate, get_or, Some, None, add-zero, arith, refl, ap, sym, ◌∙◌, length-drop}
use Rattle.std.proofs.lemmas.Bool.{cases_eq, cases_lt}
use Rattle.std.proofs.lemmas.List.{drop-drop, drop_more, get_or-drop}
use Rattle.memchr.specs.Find.{OccursAt, Nowhere, NoneBefore}
use Rattle.annexb.specs.NalUnit.{begins_forbidden}
use Rattle.annexb.specs.Faults.{zero_run}
use Rattle.annexb.specs.declared.search.Run.TheVariants.{Last, StartCode, Inside}
use Rattle.annexb.specs.ByteStream.{start_code}
use Rattle.annexb.specs.Search.{MayEnd, IsRun, IsScanned, IsLenWithoutZero, EndsUnit}
use Rattle.annexb.proofs.ZeroRuns.{zeros_split, start_code_split, length-zero_run}
use Rattle.annexb.proofs.Needles.{drop-occurs, OccursAt-from_drop}

-- the bytes begin with two zeros
abbrev pub BeginsWithZeros : List ℕ → Type 0
BeginsWithZeros bytes = (rest : List ℕ) × (bytes ≡ 0 ∷ 0 ∷ rest)

pub cases_le : (m n : ℕ) → (m ≤ n) ⊎ (n < m)
cases_le m n = ⊎_elim (λ less. inr less) (λ more. inl more) (cases_lt n m)

-- where they don't, no forbidden sequence stands
begins_forbidden-plain : (bytes : List ℕ) → ¬ BeginsWithZeros bytes → begins_forbidden bytes ≡ false
begins_forbidden-plain [] h = refl
begins_forbidden-plain (zero ∷ []) h = refl
begins_forbidden-plain (zero ∷ zero ∷ bytes) h = absurd (h (bytes, refl))
begins_forbidden-plain (zero ∷ suc n ∷ bytes) h = refl
begins_forbidden-plain (suc n ∷ bytes) h = refl

-- two zeros in a row begin what is left there
begins_from_reads : (bytes : List ℕ) (at : ℕ) → at + 1 < length bytes → get_or bytes at 0 ≡ 0 → get_or bytes (at + 1) 0 ≡ 0 → BeginsWithZeros (drop at bytes)
begins_from_reads bytes at here first second = (
  drop (at + 1 + 1) bytes,
  drop_more bytes at 0 (omega arith) ∙ rw (first, drop_more bytes (at + 1) 0 here, second) refl,
)

-- and are read there
reads_from_begins : (bytes rest : List ℕ) (at : ℕ) → drop at bytes ≡ 0 ∷ 0 ∷ rest → (get_or bytes at 0 ≡ 0) × (get_or bytes (at + 1) 0 ≡ 0)
reads_from_begins bytes rest at e = (
  sym (rw add-zero at (get_or-drop at bytes 0 0)) ∙ ap (λ l. get_or l 0 0) e,
  sym (get_or-drop at bytes 1 0) ∙ ap (λ l. get_or l 1 0) e,
)

module _ (bytes : List ℕ) (from : ℕ) (scanned : IsScanned bytes from) where
  -- from the scanned bytes on no two zeros stand in a row before the place
  abbrev NoZeros : ℕ → Type 0
  NoZeros at = (place : ℕ) → from ≤ place → place < at → ¬ BeginsWithZeros (drop place bytes)

  -- as a search past the scanned bytes tells
  no_zeros : (to : ℕ) → Nowhere (OccursAt (drop from bytes) (0 ∷ 0 ∷ [])) 0 to → NoZeros (from + to)
  no_zeros to nowhere place past below (rest, e) =
      let ahead = place - from in
      let there : from + ahead ≡ place = omega arith in
      nowhere ahead (omega arith) (omega arith) (OccursAt-from_drop (drop from bytes) (0 ∷ 0 ∷ []) rest ahead (omega arith) (drop-drop ahead from bytes ∙ rw there e))

  -- so a unit may reach up to the place, if no zero stands before it
  scanned_to : (at : ℕ) → from ≤ at → at ≤ length bytes → NoZeros at → ((last : ℕ) → last + 1 ≡ at → from < at → get_or bytes last 0 ≢ 0) → IsScanned bytes at
  scanned_to at past in_range none ends = record {
    in_range = in_range;
    allowed = λ place below. ⊎_elim (λ before. scanned.allowed place before) (λ after. begins_forbidden-plain (drop place bytes) (none place after below)) (cases_lt place from);
    ends = λ last e zero_there. ⊎_elim (λ same. scanned.ends last (e ∙ same) zero_there) (λ other. ends last e (omega arith) zero_there) (cases_eq at from);
  }

  module _ (ahead : ℕ) (found : NoneBefore (OccursAt (drop from bytes) (0 ∷ 0 ∷ [])) 0 (length (drop from bytes) + 1) ahead × OccursAt (drop from bytes) (0 ∷ 0 ∷ []) ahead) where
    zeros_there : drop (from + ahead) bytes ≡ 0 ∷ 0 ∷ drop (ahead + 2) (drop from bytes)
    zeros_there = sym (drop-drop ahead from bytes) ∙ drop-occurs (drop from bytes) (0 ∷ 0 ∷ []) ahead found.1

    -- where the search finds two zeros
    pub scanned_to_zeros : IsScanned bytes (from + ahead)
    scanned_to_zeros =
        let fits : from + ahead + 2 ≤ length bytes = omega (arith, found.1.fits, length-drop from bytes) in
        let first = (reads_from_begins bytes _ (from + ahead) zeros_there).0 in
        let none = no_zeros ahead found.0.before in
        scanned_to (from + ahead) (omega arith) (omega arith) none (λ last e longer zero_there.
        none last (omega arith) (omega arith) (begins_from_reads bytes last (omega arith) zero_there (rw e first)))

    pub MayEnd_at_zeros : MayEnd (drop (from + ahead) bytes)
    MayEnd_at_zeros = rw zeros_there (inl (omega arith))

  -- where it finds none
  pub scanned_to_end : (len : ℕ) → Nowhere (OccursAt (drop from bytes) (0 ∷ 0 ∷ [])) 0 (length (drop from bytes) + 1)
      → IsLenWithoutZero bytes len → IsScanned bytes len
  scanned_to_end len nowhere is_len =
      let size = length-drop from bytes in
      let none = no_zeros (length (drop from bytes) + 1) nowhere in
      let in_range = scanned.in_range in
      ⊎_elim
      (λ whole. let end : len ≡ length bytes = whole.0 in
      scanned_to len (omega arith) (omega arith) (λ place past below. none place past (omega arith)) (λ last e longer. whole.1 last e))
      (λ (less, zero_there). let past : from ≤ len = ⊎_elim (λ before. before) (λ over. absurd (scanned.ends len (omega arith) zero_there)) (cases_le from len) in
      scanned_to len past (omega arith) (λ place past below. none place past (omega arith)) (λ last e longer zero_before.
      none last (omega arith) (omega arith) (begins_from_reads bytes last (omega arith) zero_before (rw e zero_there))))
      is_len

-- past two zeros that belong to a unit
pub scanned_past_zeros : (bytes : List ℕ) (at : ℕ) → IsScanned bytes at → IsRun (drop at bytes) Inside → IsScanned bytes (at + 3)
scanned_past_zeros bytes at scanned inside = record {
  in_range = omega (arith, inside.1, length-drop at bytes);
  allowed = λ place below. ⊎_elim (λ before. scanned.allowed place before) (λ from. ⊎_elim (λ here. rw here inside.0) (λ other. begins_forbidden-plain (drop place bytes) (past place (omega arith) below)) (cases_eq place at)) (cases_lt place at);
  ends = λ last e zero_there. let there : last ≡ at + 2 = omega arith in byte_there (rw there at zero_there);
}
  where
    byte_there : get_or bytes (at + 2) 0 ≢ 0
    byte_there = rw get_or-drop at inside.2

    past : (place : ℕ) → at < place → place < at + 3 → ¬ BeginsWithZeros (drop place bytes)
    past place above below (rest, e) =
        let reads = reads_from_begins bytes rest place e in
        ⊎_elim (λ one. let there : place + 1 ≡ at + 2 = omega arith in byte_there (rw there at reads.1)) (λ other. let there : place ≡ at + 2 = omega arith in byte_there (rw there at reads.0)) (cases_eq place (at + 1))

-- where the zeros end the unit
pub EndsUnit_at_end : (bytes : List ℕ) (at : ℕ) → IsRun (drop at bytes) Last → EndsUnit bytes at None
EndsUnit_at_end bytes at last = record { zeros = zero_run (drop at bytes); gap = zeros_split (drop at bytes) ∙ ap (λ l. replicate (zero_run (drop at bytes)) 0 ++ l) last; follows = tt }

pub EndsUnit_at_code : (bytes : List ℕ) (at len : ℕ) → at ≤ length bytes → IsRun (drop at bytes) (StartCode len) → EndsUnit bytes at (Some (at + len))
EndsUnit_at_code bytes at len in_range (enough, len_is, code) = record {
  zeros = zero_run (drop at bytes) - 2;
  gap = start_code_split (drop at bytes) (drop len (drop at bytes)) enough code ∙ ap (λ l. replicate (zero_run (drop at bytes) - 2) 0 ++ (start_code ++ l)) (drop-drop len at bytes);
  follows = (omega arith, omega (arith, length-zero_run (drop at bytes), ap length code, length-drop at bytes));
}
