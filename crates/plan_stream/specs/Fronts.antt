-- Where the text of an access unit ends in what is left of a stream (ITU-T H.264, 7.4.1.2.3 and B.1).
use Rattle.std.specs.Prelude.{◌≡◌, ℕ, zero, suc, ◌+◌, Bool, false, ◌&&◌, ◌||◌, List, [], ◌∷◌, ◌++◌, length, if◌then◌else◌}
use Rattle.annexb.specs.NalUnit.{is_slice}
use Rattle.annexb.specs.AccessUnits.{begins_access_unit}

-- how many bytes the access unit goes on for, where one of its slices stands before the bytes or none does: they end
-- where a start code stands before the first NAL unit of the next one
abbrev pub front_len : Bool → List ℕ → ℕ
front_len has_slice (zero ∷ zero ∷ suc zero ∷ bytes) =
    if has_slice && begins_access_unit bytes then 0 else 3 + front_len (has_slice || is_slice bytes) bytes
front_len has_slice (byte ∷ bytes) = 1 + front_len has_slice bytes
front_len has_slice [] = 0

-- the bytes are the text of the first access unit, and the rest
pub record IsFront (left front rest : List ℕ) : Type 0 where
  pub whole : left ≡ front ++ rest
  pub len : length front ≡ front_len false left
