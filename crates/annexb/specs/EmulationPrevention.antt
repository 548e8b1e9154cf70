-- Emulation prevention: the bytes 03 that keep start codes out of a unit (ITU-T H.264, 7.3.1, 7.4.1).
use Rattle.std.specs.Prelude.{◌≡◌, ℕ, zero, suc, ◌+◌, ◌<◌, ◌≤◌, nat_le, List, [], ◌∷◌, ◌++◌, length, take, drop, if◌then◌else◌}

-- the byte 03 that two zeros take after them before the end, or before a byte of at most 3
abbrev pub three_byte_before : List ℕ → List ℕ
three_byte_before [] = 3 ∷ []
three_byte_before (byte ∷ bytes) = if nat_le byte 3 then 3 ∷ [] else []

-- the unit of a payload: with 03 put in where two zeros take it, after which the count of zeros
-- starts again
abbrev pub escape : List ℕ → List ℕ
escape (zero ∷ zero ∷ bytes) = 0 ∷ 0 ∷ (three_byte_before bytes ++ escape bytes)
escape (byte ∷ bytes) = byte ∷ escape bytes
escape [] = []

-- the payload of a unit: with each 03 that stands after 00 00 taken out
abbrev pub payload_of : List ℕ → List ℕ
payload_of (zero ∷ zero ∷ suc (suc (suc zero)) ∷ bytes) = 0 ∷ 0 ∷ payload_of bytes
payload_of (byte ∷ bytes) = byte ∷ payload_of bytes
payload_of [] = []

-- the bytes up to the place are the payload's first, and the place is the limit, the end, or that of
-- the first byte that the payload leaves out
pub record IsPlainFront (bytes : List ℕ) (limit place : ℕ) : Type 0 where
  pub below : place ≤ limit
  pub in_range : place ≤ length bytes
  pub begins : (more : List ℕ) × (payload_of bytes ≡ take place bytes ++ more)
  pub left_out :
      place < limit → place < length bytes
      → payload_of bytes ≡ take place bytes ++ payload_of (drop (place + 1) bytes)
  pub ends : place ≡ length bytes → payload_of bytes ≡ bytes
