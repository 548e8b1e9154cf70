-- Bits of bytes, and a place among them (ITU-T H.264, 7.2).
use Rattle.std.specs.Prelude.{ℕ, ◌+◌, ◌*◌, ◌/◌, ◌%◌, ◌^◌, ◌==◌, Bool, cond, List, [], ◌∷◌, drop, map, length}
use Rattle.std.specs.List.{flat_map}

-- the bit of weight 2^k
abbrev pub bit_of : ℕ → ℕ → Bool
bit_of byte k = byte / 2 ^ k % 2 == 1

-- the eight bits of a byte, most significant first
abbrev pub byte_bits : ℕ → List Bool
byte_bits byte = map (bit_of byte) (7 ∷ 6 ∷ 5 ∷ 4 ∷ 3 ∷ 2 ∷ 1 ∷ 0 ∷ [])

-- the bits of bytes, in order
abbrev pub bits_of : List ℕ → List Bool
bits_of bytes = flat_map byte_bits bytes

-- the number that a text of bits stands for, most significant first
abbrev pub number : List Bool → ℕ
number [] = 0
number (bit ∷ bits) = cond bit 1 0 * 2 ^ length bits + number bits

-- a place among bits: how many stand before it, and those after it
pub record Place : Type 0 where
  pub before : ℕ
  pub rest : List Bool

-- the place n bits further on
abbrev pub skip : ℕ → Place → Place
skip n p = record { before = p.before + n; rest = drop n p.rest }

-- the first bit of bytes
abbrev pub start : List ℕ → Place
start bytes = record { before = 0; rest = bits_of bytes }
