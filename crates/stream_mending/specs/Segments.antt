-- The segments of bytes that start codes begin, whatever stands in them (ITU-T H.264, B.1 and B.2).
use Rattle.std.specs.Prelude.{ℕ, zero, suc, ◌+◌, ◌-◌, List, [], ◌∷◌, length}
use Rattle.annexb.specs.Faults.{after_zeros}

-- bytes, cut at each 00 00 01: what stands before the first, and what stands after each up to the next or the end
pub record Cut : Type 0 where
  pub front : List ℕ
  pub rest : List (List ℕ)

-- a start code, and then what is cut so
abbrev pub after_code : Cut → Cut
after_code cut = record { front = []; rest = cut.front ∷ cut.rest }

-- a byte, and then what is cut so
abbrev pub after_byte : ℕ → Cut → Cut
after_byte byte cut = record { front = byte ∷ cut.front; rest = cut.rest }

-- the cut of bytes, which is searched for start codes from left to right
abbrev pub cut_of : List ℕ → Cut
cut_of (zero ∷ zero ∷ suc zero ∷ bytes) = after_code (cut_of bytes)
cut_of (byte ∷ bytes) = after_byte byte (cut_of bytes)
cut_of [] = record { front = []; rest = [] }

-- a byte before others, but for a zero before nothing
abbrev pub before_others : ℕ → List ℕ → List ℕ
before_others zero [] = []
before_others byte bytes = byte ∷ bytes

-- the bytes without the zeros at their end
abbrev pub trimmed : List ℕ → List ℕ
trimmed [] = []
trimmed (byte ∷ bytes) = before_others byte (trimmed bytes)

-- how many zeros stand at their end
abbrev pub end_zeros : List ℕ → ℕ
end_zeros bytes = length bytes - length (trimmed bytes)

-- a NAL unit, or what stands for one: the place of its start code, its bytes after that, and how many zeros follow
pub record Segment : Type 0 where
  pub place : ℕ
  pub unit : List ℕ
  pub zeros : ℕ

-- the segment of what stands after the start code at this place
abbrev pub segment_at : ℕ → List ℕ → Segment
segment_at place bytes = record { place = place; unit = trimmed bytes; zeros = end_zeros bytes }

-- the segments of what stands after start codes, of which the first is at this place
abbrev pub segments_at : ℕ → List (List ℕ) → List Segment
segments_at place [] = []
segments_at place (bytes ∷ others) = segment_at place bytes ∷ segments_at (place + (3 + length bytes)) others

-- the segments of a text
abbrev pub segments_of : List ℕ → List Segment
segments_of text = segments_at (length (cut_of text).front) (cut_of text).rest

-- of what stands before the first start code, what is no zero at its start or end
abbrev pub foreign : List ℕ → List ℕ
foreign front = trimmed (after_zeros front)
