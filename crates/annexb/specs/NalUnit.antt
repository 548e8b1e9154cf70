-- NAL units: which bytes make one, and the fields of its first bytes (ITU-T H.264, 7.3.1, 7.4.1).
use Rattle.std.specs.Prelude.{◌≢◌, ℕ, zero, ◌-◌, ◌/◌, ◌%◌, ◌<◌, Bool, false, ◌&&◌, ◌||◌, ◌==◌, nat_lt, nat_le, List, [], ◌∷◌, length, drop, slice_index, IsFalse}

-- the bytes begin with one above 3
abbrev pub begins_above_three : List ℕ → Bool
begins_above_three [] = false
begins_above_three (byte ∷ bytes) = nat_lt 3 byte

-- the bytes begin with 00 00 00, 00 00 01 or 00 00 02, or with 00 00 03 and a byte above 3
abbrev pub begins_forbidden : List ℕ → Bool
begins_forbidden (zero ∷ zero ∷ byte ∷ bytes) =
    nat_lt byte 3 || (byte == 3 && begins_above_three bytes)
begins_forbidden bytes = false

-- a unit isn't empty, doesn't end in 00, and at none of its places stands a forbidden sequence
pub record IsUnit (unit : List ℕ) : Type 0 where
  pub filled : 0 < length unit
  pub ends : slice_index unit (length unit - 1) ≢ 0
  pub allowed : (at : ℕ) → IsFalse (begins_forbidden (drop at unit))

-- the first byte of a unit, which is its header
abbrev pub header_of : List ℕ → ℕ
header_of unit = slice_index unit 0

-- forbidden_zero_bit: the header's top bit
abbrev pub forbidden_zero_bit : List ℕ → Bool
forbidden_zero_bit unit = nat_le 128 (header_of unit)

-- nal_ref_idc: the two bits below it
abbrev pub nal_ref_idc : List ℕ → ℕ
nal_ref_idc unit = header_of unit / 32 % 4

-- nal_unit_type: the five bits below those
abbrev pub nal_unit_type : List ℕ → ℕ
nal_unit_type unit = header_of unit % 32

-- a coded slice without data partitioning: of a picture that isn't IDR (1) or is (5)
abbrev pub is_slice : List ℕ → Bool
is_slice unit = nal_unit_type unit == 1 || nal_unit_type unit == 5

-- a slice whose first_mb_in_slice is 0, that is, one bit 1 after the header (7.3.3, 9.1)
abbrev pub begins_at_macroblock_zero : List ℕ → Bool
begins_at_macroblock_zero unit = is_slice unit && nat_le 128 (slice_index unit 1)
