-- The bits of a unit's payload that its syntax describes.
use Rattle.std.specs.Prelude.{ℕ, List}
use Rattle.expgolomb.specs.Bits.{Place, start, skip}

-- the bits after a payload's first byte
abbrev pub after_first : List ℕ → Place
after_first payload = skip 8 (start payload)
