-- What keeps a text from having units, and where (ITU-T H.264, 7.4.1 and B.1).
use Rattle.std.specs.Prelude.{◌≡◌, ◌≢◌, ℕ, zero, suc, ◌+◌, ◌<◌, Bool, true, false, not, ◌&&◌, ◌||◌, ◌==◌, nat_le, List, [], ◌∷◌, drop, slice_index, IsTrue}
use Rattle.annexb.specs.NalUnit.{begins_above_three}
use Rattle.annexb.specs.ByteStream.{FollowsStartCode}

-- how many zeros the bytes begin with
abbrev pub zero_run : List ℕ → ℕ
zero_run (zero ∷ bytes) = suc (zero_run bytes)
zero_run bytes = 0

-- what stands after the zeros that the bytes begin with
abbrev pub after_zeros : List ℕ → List ℕ
after_zeros bytes = drop (zero_run bytes) bytes

-- the bytes begin with 01
abbrev pub begins_with_one : List ℕ → Bool
begins_with_one [] = false
begins_with_one (byte ∷ bytes) = byte == 1

-- the bytes begin with zeros or none and a start code
abbrev pub begins_with_start_code : List ℕ → Bool
begins_with_start_code bytes = nat_le 2 (zero_run bytes) && begins_with_one (after_zeros bytes)

-- a run of this many zeros may stand in no unit where these bytes follow it, and ends none
abbrev pub is_forbidden_run : ℕ → List ℕ → Bool
is_forbidden_run count [] = false
is_forbidden_run count (byte ∷ bytes) =
    (count == 2 && (byte == 2 || (byte == 3 && begins_above_three bytes)))
    || (nat_le 3 count && not (byte == 1))

-- the bytes begin with a run of two zeros before 02, or before 03 and a byte above 3,
-- or with a run of three zeros or more before a byte other than 01
abbrev pub begins_forbidden_run : List ℕ → Bool
begins_forbidden_run bytes = is_forbidden_run (zero_run bytes) (after_zeros bytes)

-- a forbidden run begins at the place
pub record IsForbiddenAt (text : List ℕ) (at : ℕ) : Type 0 where
  pub begins : (before : ℕ) → before + 1 ≡ at → slice_index text before ≢ 0
  pub forbidden : IsTrue (begins_forbidden_run (drop at text))

-- there are no bytes
abbrev pub is_nothing : List ℕ → Bool
is_nothing [] = true
is_nothing (byte ∷ bytes) = false

-- a unit before the bytes ends there: they are zeros or none, up to the end or up to a start code
abbrev pub ends_unit : List ℕ → Bool
ends_unit bytes = is_nothing (after_zeros bytes) || begins_with_start_code bytes

-- a start code ends at the place, and no unit stands after it
pub record IsEmptyAt (text : List ℕ) (at : ℕ) : Type 0 where
  pub code : FollowsStartCode text at
  pub empty : IsTrue (ends_unit (drop at text))

-- the text begins with zeros or none and a start code, and no fault stands before the place
pub record IsSoundBefore (text : List ℕ) (at : ℕ) : Type 0 where
  pub begins : IsTrue (begins_with_start_code text)
  pub allowed : (place : ℕ) → place < at → ¬ IsForbiddenAt text place
  pub filled : (place : ℕ) → place < at → ¬ IsEmptyAt text place

-- the first fault is a forbidden run, and begins at the place
abbrev pub IsFirstForbidden : List ℕ → ℕ → Type 0
IsFirstForbidden text at = IsForbiddenAt text at × IsSoundBefore text at

-- the first fault is a start code without a unit, and ends at the place
abbrev pub IsFirstEmpty : List ℕ → ℕ → Type 0
IsFirstEmpty text at = IsEmptyAt text at × (¬ IsForbiddenAt text at) × IsSoundBefore text at
