-- In a text that has units no fault stands anywhere.
use Rattle.std.proofs.Common.{Bool, ◌≡◌, ◌≢◌, ℕ, zero, suc, ◌+◌, ◌-◌, ◌<◌, ◌≤◌, ⊎_elim, true, false, eqb, leb, List, [], ◌∷◌, ◌++◌, length, drop, replicate, arith, refl, ap, sym, ◌∙◌, length-append}
use Rattle.std.proofs.lemmas.Bool.{false≢true, and_right, ne_eqb, cases_lt}
use Rattle.std.proofs.lemmas.List.{append_assoc, drop-drop, drop_at, drop_all, length-replicate}
use Rattle.annexb.specs.NalUnit.{begins_above_three, IsUnit}
use Rattle.annexb.specs.ByteStream.{start_code, AreUnits, HasUnits}
use Rattle.annexb.specs.Faults.{zero_run, after_zeros, begins_with_start_code, is_forbidden_run, begins_forbidden_run, ends_unit}
use Rattle.annexb.proofs.Tails.{IsTail, IsTail-from_unit, IsTail-drop}
use Rattle.annexb.proofs.ZeroRuns.{after_zeros-replicate, begins_with_start_code-zeros, ends_unit-end, ends_unit-code}

-- the bytes begin with a start code and no unit after it
abbrev pub begins_empty : List ℕ → Bool
begins_empty (zero ∷ zero ∷ suc zero ∷ bytes) = ends_unit bytes
begins_empty bytes = false

-- no fault stands at the start of the bytes
pub record IsClear (bytes : List ℕ) : Type 0 where
  pub allowed : begins_forbidden_run bytes ≡ false
  pub filled : begins_empty bytes ≡ false

-- what may follow a unit: nothing, or a zero
pub data FollowsUnit : List ℕ → Type 0 where
  nothing : FollowsUnit []
  a_zero : {bytes : List ℕ} → FollowsUnit (0 ∷ bytes)

-- what is left at the end of a unit's zeros: nothing, or a start code
pub data EndsZeros : List ℕ → Type 0 where
  the_end : EndsZeros []
  a_code : {bytes : List ℕ} → EndsZeros (start_code ++ bytes)

-- a unit, or what is left of one, is clear and ends no unit, whatever may follow it
module _ (gap : List ℕ) (follows : FollowsUnit gap) where
  above_three_gap : begins_above_three gap ≡ false
  above_three_gap = elim follows as (λ l h. begins_above_three l ≡ false) [ nothing ↦ refl | a_zero ↦ refl ]

  above_three_tail : (unit : List ℕ) → begins_above_three unit ≡ false → begins_above_three (unit ++ gap) ≡ false
  above_three_tail [] h = above_three_gap
  above_three_tail (byte ∷ unit) h = h

  pub clear_tail : (unit : List ℕ) → 0 < length unit → IsTail unit → IsClear (unit ++ gap)
  clear_tail [] some h = absurd (omega arith)
  clear_tail (zero ∷ []) some h = absurd (h.ends 0 refl refl)
  clear_tail (zero ∷ zero ∷ []) some h = absurd (h.ends 1 refl refl)
  clear_tail (zero ∷ zero ∷ zero ∷ unit) some h = absurd (false≢true (sym (h.allowed 0)))
  clear_tail (zero ∷ zero ∷ suc zero ∷ unit) some h = absurd (false≢true (sym (h.allowed 0)))
  clear_tail (zero ∷ zero ∷ suc (suc zero) ∷ unit) some h = absurd (false≢true (sym (h.allowed 0)))
  clear_tail (zero ∷ zero ∷ suc (suc (suc zero)) ∷ unit) some h = record { allowed = rw (above_three_tail unit (h.allowed 0)) refl; filled = refl }
  clear_tail (zero ∷ zero ∷ suc (suc (suc (suc n))) ∷ unit) some h =
      let no_two : suc (suc (suc (suc n))) ≢ 2 = omega arith in
      let no_three : suc (suc (suc (suc n))) ≢ 3 = omega arith in
      record { allowed = rw (ne_eqb _ 2 no_two, ne_eqb _ 3 no_three) refl; filled = refl }
  clear_tail (zero ∷ suc n ∷ unit) some h = record { allowed = refl; filled = refl }
  clear_tail (suc n ∷ unit) some h = record { allowed = refl; filled = refl }

  pub ends_unit-tail : (unit : List ℕ) → 0 < length unit → IsTail unit → ends_unit (unit ++ gap) ≡ false
  ends_unit-tail [] some h = absurd (omega arith)
  ends_unit-tail (zero ∷ []) some h = absurd (h.ends 0 refl refl)
  ends_unit-tail (zero ∷ zero ∷ []) some h = absurd (h.ends 1 refl refl)
  ends_unit-tail (zero ∷ zero ∷ zero ∷ unit) some h = absurd (false≢true (sym (h.allowed 0)))
  ends_unit-tail (zero ∷ zero ∷ suc zero ∷ unit) some h = absurd (false≢true (sym (h.allowed 0)))
  ends_unit-tail (zero ∷ zero ∷ suc (suc n) ∷ unit) some h = let no_one : suc (suc n) ≢ 1 = omega arith in rw (ne_eqb _ 1 no_one) refl
  ends_unit-tail (zero ∷ suc n ∷ unit) some h = refl
  ends_unit-tail (suc n ∷ unit) some h = refl

-- zeros before the end or a start code are clear, and end a unit
module _ (rest : List ℕ) (ends : EndsZeros rest) where
  allowed_before : (count : ℕ) → is_forbidden_run count (after_zeros rest) ≡ false
  allowed_before count =
      elim ends as (λ l h. is_forbidden_run count (after_zeros l) ≡ false) [ the_end ↦ refl | a_code ↦ rw (and_right (eqb count 2) false refl, and_right (leb 3 count) false refl) refl ]

  pub clear_zeros : (count : ℕ) → IsClear (replicate (suc count) 0 ++ rest)
  clear_zeros count = record {
    allowed = rw after_zeros-replicate (allowed_before (zero_run (replicate (suc count) 0 ++ rest)));
    filled = no_code count;
  }
    where
      no_code : (count : ℕ) → begins_empty (replicate (suc count) 0 ++ rest) ≡ false
      no_code zero = elim ends as (λ l h. begins_empty (0 ∷ l) ≡ false) [ the_end ↦ refl | a_code ↦ refl ]
      no_code (suc zero) = elim ends as (λ l h. begins_empty (0 ∷ 0 ∷ l) ≡ false) [ the_end ↦ refl | a_code ↦ refl ]
      no_code (suc (suc count)) = refl

  pub clear_in_zeros : (count place : ℕ) → place < count → IsClear (drop place (replicate count 0 ++ rest))
  clear_in_zeros zero place below = absurd (omega arith)
  clear_in_zeros (suc count) zero below = clear_zeros count
  clear_in_zeros (suc count) (suc place) below = clear_in_zeros count place (omega arith)

  pub FollowsUnit-zeros : (count : ℕ) → FollowsUnit (replicate count 0 ++ rest)
  FollowsUnit-zeros zero = elim ends as (λ l h. FollowsUnit l) [ the_end ↦ nothing | a_code ↦ a_zero ]
  FollowsUnit-zeros (suc count) = a_zero

  pub ends_unit-zeros : (count : ℕ) → ends_unit (replicate count 0 ++ rest) ≡ true
  ends_unit-zeros count = elim ends as (λ l h. ends_unit (replicate count 0 ++ l) ≡ true) [ the_end ↦ ends_unit-end count | a_code {bytes} ↦ ends_unit-code count bytes ]

-- a start code with its unit after it is clear
module _ (unit rest : List ℕ) (count : ℕ) (is_unit : IsUnit unit) (ends : EndsZeros rest) where
  clear_in_unit : (bytes : List ℕ) → IsTail bytes → (place : ℕ) → place < length bytes → IsClear (drop place (bytes ++ (replicate count 0 ++ rest)))
  clear_in_unit [] tail place below = absurd (omega arith)
  clear_in_unit (byte ∷ bytes) tail zero below = clear_tail _ (FollowsUnit-zeros rest ends count) (byte ∷ bytes) (omega arith) tail
  clear_in_unit (byte ∷ bytes) tail (suc place) below = clear_in_unit bytes (IsTail-drop 1 _ tail) place (omega arith)

  pub clear_piece : (place : ℕ) → place < 3 + length unit + count → IsClear (drop place (start_code ++ (unit ++ (replicate count 0 ++ rest))))
  clear_piece zero below = record { allowed = refl; filled = ends_unit-tail _ (FollowsUnit-zeros rest ends count) unit is_unit.filled (IsTail-from_unit unit is_unit) }
  clear_piece (suc zero) below = record { allowed = refl; filled = refl }
  clear_piece (suc (suc zero)) below = record { allowed = refl; filled = refl }
  clear_piece (suc (suc (suc place))) below = ⊎_elim
      (λ inside. clear_in_unit unit (IsTail-from_unit unit is_unit) place inside)
      (λ after. let past = place - length unit in
      let there : length unit + past ≡ place = omega arith in
      rw there at (rw (drop-drop past (length unit) (unit ++ (replicate count 0 ++ rest))) at (rw (← (drop_at unit (replicate count 0 ++ rest) (length unit) refl)) at (clear_in_zeros rest ends count past (omega arith)))))
      (cases_lt place (length unit))

-- units end in zeros, or go on with a start code
pub EndsZeros-units : (bytes : List ℕ) (units : List (List ℕ)) → AreUnits bytes units → EndsZeros bytes
EndsZeros-units bytes [] h = rw h the_end
EndsZeros-units bytes (unit ∷ units) (rest, begins, more) = rw begins.bytes_are a_code

-- past a unit, its start code and its zeros stands the rest
drop_piece : (unit rest : List ℕ) (count : ℕ) → drop (3 + length unit + count) (start_code ++ (unit ++ (replicate count 0 ++ rest))) ≡ rest
drop_piece unit rest count =
    let piece = start_code ++ (unit ++ replicate count 0) in
    ap (λ l. drop (3 + length unit + count) (start_code ++ l)) (sym (append_assoc unit (replicate count 0) rest))
    ∙ drop_at piece rest (3 + length unit + count) (omega (arith, length-append unit (replicate count 0), length-replicate {A = ℕ} count 0))

-- what stands after a front is clear from its own front on
clear_after : (front bytes : List ℕ) (size place : ℕ) → drop size front ≡ bytes → size ≤ place
    → ((past : ℕ) → IsClear (drop past bytes)) → IsClear (drop place front)
clear_after front bytes size place e after clear =
    let past = place - size in
    let there : size + past ≡ place = omega arith in
    rw there at (rw (drop-drop past size front) at (rw (← e) at (clear past)))

pub clear_units : (bytes : List ℕ) (units : List (List ℕ)) → AreUnits bytes units → (place : ℕ) → IsClear (drop place bytes)
clear_units bytes [] h place = rw (h, drop_all {X = ℕ} place [] (omega arith)) (record { allowed = refl; filled = refl })
clear_units bytes (unit ∷ units) (rest, begins, more) place = ⊎_elim
    (λ inside. rw begins.bytes_are (clear_piece unit rest begins.zeros begins.unit_is (EndsZeros-units rest units more) place inside))
    (λ after. clear_after bytes rest (3 + length unit + begins.zeros) place (ap (drop (3 + length unit + begins.zeros)) begins.bytes_are ∙ drop_piece unit rest begins.zeros) after (clear_units rest units more))
    (cases_lt place (3 + length unit + begins.zeros))

pub clear_text : (text : List ℕ) (units : List (List ℕ)) → HasUnits text units → (place : ℕ) → IsClear (drop place text)
clear_text text units h place = ⊎_elim
    (λ inside. rw h.text_is (clear_in_zeros h.rest (EndsZeros-units h.rest units h.rest_is) h.zeros place inside))
    (λ after. clear_after text h.rest h.zeros place (ap (drop h.zeros) h.text_is ∙ drop_at (replicate h.zeros 0) h.rest h.zeros (length-replicate h.zeros 0)) after (clear_units h.rest units h.rest_is))
    (cases_lt place h.zeros)

-- and it begins with zeros or none and a start code
pub begins_with_start_code-text : (text : List ℕ) (units : List (List ℕ)) → HasUnits text units → begins_with_start_code text ≡ true
begins_with_start_code-text text [] h = absurd (omega (arith, h.filled))
begins_with_start_code-text text (unit ∷ units) h =
    let begins = h.rest_is.1 in
    rw (h.text_is, begins.bytes_are) (begins_with_start_code-zeros h.zeros (unit ++ (replicate begins.zeros 0 ++ h.rest_is.0)))
