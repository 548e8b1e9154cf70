-- How far the text of an access unit goes past a unit, past zeros, and past bytes without a start code.
use Rattle.std.proofs.Common.{◌≡◌, ℕ, zero, suc, ◌+◌, ◌<◌, ◌≤◌, Bool, true, false, ◌&&◌, ◌||◌, eqb, leb, ltb, List, [], ◌∷◌, ◌++◌, length, replicate, get_or, append-nil, arith, refl, ap, sym, ◌∙◌}
use Rattle.std.proofs.lemmas.Bool.{false≢true, lt-ltb}
use Rattle.annexb.specs.NalUnit.{begins_at_macroblock_zero, is_slice, nal_unit_type}
use Rattle.annexb.specs.ByteStream.{start_code}
use Rattle.annexb.specs.AccessUnits.{begins_access_unit, precedes_slices}
use Rattle.annexb.proofs.Tails.{IsTail, IsTail-drop}
use Rattle.annexb.proofs.Clear.{FollowsUnit, nothing, a_zero, EndsZeros, the_end, a_code}
use Rattle.plan_stream.specs.Fronts.{front_len}
use Rattle.plan_stream.specs.Seen.{IsSeen}

-- it goes on past a unit, and past what is left of one
pub past_tail : (has_slice : Bool) (unit gap : List ℕ) → IsTail unit → front_len has_slice (unit ++ gap) ≡ length unit + front_len has_slice gap
past_tail has_slice [] gap tail = omega arith
past_tail has_slice (zero ∷ []) gap tail = absurd (tail.ends 0 refl refl)
past_tail has_slice (zero ∷ zero ∷ []) gap tail = absurd (tail.ends 1 refl refl)
past_tail has_slice (zero ∷ zero ∷ zero ∷ unit) gap tail = absurd (false≢true (sym (tail.allowed 0)))
past_tail has_slice (zero ∷ zero ∷ suc zero ∷ unit) gap tail = absurd (false≢true (sym (tail.allowed 0)))
past_tail has_slice (zero ∷ zero ∷ suc (suc n) ∷ unit) gap tail =
    omega (arith, past_tail has_slice (zero ∷ suc (suc n) ∷ unit) gap (IsTail-drop 1 (zero ∷ zero ∷ suc (suc n) ∷ unit) tail))
past_tail has_slice (zero ∷ suc n ∷ unit) gap tail =
    omega (arith, past_tail has_slice (suc n ∷ unit) gap (IsTail-drop 1 (zero ∷ suc n ∷ unit) tail))
past_tail has_slice (suc n ∷ unit) gap tail =
    omega (arith, past_tail has_slice unit gap (IsTail-drop 1 (suc n ∷ unit) tail))

-- and past zeros that end with the text, or before a start code
module _ (has_slice : Bool) (rest : List ℕ) (ends : EndsZeros rest) where
  past_zero : (count : ℕ) → front_len has_slice (0 ∷ (replicate count 0 ++ rest)) ≡ 1 + front_len has_slice (replicate count 0 ++ rest)
  past_zero zero = elim ends as (λ l h. front_len has_slice (0 ∷ l) ≡ 1 + front_len has_slice l) [ the_end ↦ refl | a_code ↦ refl ]
  past_zero (suc zero) = elim ends as (λ l h. front_len has_slice (0 ∷ 0 ∷ l) ≡ 1 + front_len has_slice (0 ∷ l)) [ the_end ↦ refl | a_code ↦ refl ]
  past_zero (suc (suc count)) = refl

  pub past_zeros : (count : ℕ) → front_len has_slice (replicate count 0 ++ rest) ≡ count + front_len has_slice rest
  past_zeros zero = omega arith
  past_zeros (suc count) = omega (arith, past_zero count, past_zeros count)

-- what a unit begins with is seen in what goes on after it
module _ (gap : List ℕ) (follows : FollowsUnit gap) where
  first_of_gap : get_or gap 0 0 ≡ 0
  first_of_gap = elim follows as (λ l h. get_or l 0 0 ≡ 0) [ nothing ↦ refl | a_zero ↦ refl ]

  same_type : (unit : List ℕ) → 0 < length unit → nal_unit_type (unit ++ gap) ≡ nal_unit_type unit
  same_type [] some = absurd (omega arith)
  same_type (header ∷ unit) some = refl

  same_second : (unit : List ℕ) → 0 < length unit → get_or (unit ++ gap) 1 0 ≡ get_or unit 1 0
  same_second [] some = absurd (omega arith)
  same_second (header ∷ []) some = first_of_gap
  same_second (header ∷ second ∷ unit) some = refl

  pub same_slice : (unit : List ℕ) → 0 < length unit → is_slice (unit ++ gap) ≡ is_slice unit
  same_slice unit some = ap (λ n. eqb n 1 || eqb n 5) (same_type unit some)

  pub same_begins : (unit : List ℕ) → 0 < length unit → begins_access_unit (unit ++ gap) ≡ begins_access_unit unit
  same_begins unit some =
      ap (λ n. precedes_slices n || begins_at_macroblock_zero (unit ++ gap)) (same_type unit some)
      ∙ ap (λ b. precedes_slices (nal_unit_type unit) || (b && leb 128 (get_or (unit ++ gap) 1 0))) (same_slice unit some)
      ∙ ap (λ n. precedes_slices (nal_unit_type unit) || (is_slice unit && leb 128 n)) (same_second unit some)

-- two bytes are enough to see it
pub seen-two : (nal more : List ℕ) → 2 ≤ length nal → IsSeen nal more
seen-two [] more two = absurd (omega arith)
seen-two (header ∷ []) more two = absurd (omega arith)
seen-two (header ∷ second ∷ nal) more two = record { slice = refl; begins = refl }

-- and it's seen where nothing follows
pub seen-last : (nal more : List ℕ) → more ≡ [] → IsSeen nal more
seen-last nal more none =
    let same : nal ++ more ≡ nal = ap (λ l. nal ++ l) none ∙ append-nil nal in
    record { slice = ap is_slice same; begins = ap begins_access_unit same }

-- at a start code the text ends, or goes on
module _ (has_slice : Bool) (nal more : List ℕ) (seen : IsSeen nal more) where
  pub ends_at_code : (has_slice && begins_access_unit nal) ≡ true → front_len has_slice (start_code ++ (nal ++ more)) ≡ 0
  ends_at_code there = rw (seen.begins, there) refl

  pub past_code : (has_slice && begins_access_unit nal) ≡ false
      → front_len has_slice (start_code ++ (nal ++ more)) ≡ 3 + front_len (has_slice || is_slice nal) (nal ++ more)
  past_code none = rw (seen.begins, none, seen.slice) refl

-- only nothing has a text of no bytes
some_front : (bytes : List ℕ) → 0 < length bytes → 0 < front_len false bytes
some_front [] some = absurd (omega arith)
some_front (zero ∷ []) some = omega arith
some_front (zero ∷ zero ∷ []) some = omega arith
some_front (zero ∷ zero ∷ zero ∷ bytes) some = omega arith
some_front (zero ∷ zero ∷ suc zero ∷ bytes) some = omega arith
some_front (zero ∷ zero ∷ suc (suc n) ∷ bytes) some = omega arith
some_front (zero ∷ suc n ∷ bytes) some = omega arith
some_front (suc n ∷ bytes) some = omega arith

pub same_some : (bytes : List ℕ) → ltb 0 (front_len false bytes) ≡ ltb 0 (length bytes)
same_some [] = refl
same_some (byte ∷ bytes) =
    lt-ltb 0 (front_len false (byte ∷ bytes)) (some_front (byte ∷ bytes) (omega arith)) ∙ sym (lt-ltb 0 (length (byte ∷ bytes)) (omega arith))
