-- The members of controls as bytes.
use Rattle.std.specs.Prelude.{ℕ, ◌-◌, ℤ, Bool, List, [], ◌∷◌, ◌++◌, length, replicate, if◌then◌else◌}
use Rattle.std.specs.Int.{w8, w16, w32, cast_unsigned, to_le_bytes}

-- an unsigned number of 8 bits
abbrev pub u8 : ℕ → List ℕ
u8 number = number ∷ []

-- an unsigned number of 16 bits, little-endian
unfoldable pub u16 : ℕ → List ℕ
u16 number = to_le_bytes w16 number

-- an unsigned number of 32 bits, little-endian
unfoldable pub u32 : ℕ → List ℕ
u32 number = to_le_bytes w32 number

-- a signed number of 8 bits, in two's complement
abbrev pub s8 : ℤ → List ℕ
s8 number = u8 (cast_unsigned w8 number)

-- a signed number of 16 bits, in two's complement
unfoldable pub s16 : ℤ → List ℕ
s16 number = u16 (cast_unsigned w16 number)

-- a signed number of 32 bits, in two's complement
unfoldable pub s32 : ℤ → List ℕ
s32 number = u32 (cast_unsigned w32 number)

-- the number of a flag where it is set
abbrev pub flag : ℕ → Bool → ℕ
flag number set = if set then number else 0

-- bytes, filled up with zeros to a length
unfoldable pub padded : ℕ → List ℕ → List ℕ
padded size bytes = bytes ++ replicate (size - length bytes) 0
