-- The codes of syntax elements: u(n), ue(v) and se(v) (ITU-T H.264, 7.2 and 9.1).
use Rattle.std.specs.Prelude.{◌≡◌, ℕ, ◌+◌, ◌-◌, ◌/◌, ◌%◌, ◌<◌, ◌≤◌, ◌==◌, Bool, true, false, not, List, ◌∷◌, ◌++◌, drop, length, replicate, Contains, if◌then◌else◌}
use Rattle.std.specs.Prelude.{ℤ, pos, neg_ℤ}
use Rattle.std.specs.List.{prefix_len}
use Rattle.expgolomb.specs.Bits.{number, Place}

-- the code word stands at the old place, and the new place is the one after it
pub record Follows (word : List Bool) (old new : Place) : Type 0 where
  pub bits : old.rest ≡ word ++ new.rest
  pub before : new.before ≡ old.before + length word

-- the word is the u(n) code of v: n bits that stand for v
pub record IsFixed (n : ℕ) (word : List Bool) (v : ℕ) : Type 0 where
  pub long : length word ≡ n
  pub value : number word ≡ v

-- the text is v in binary, without zeros at its front
pub record IsBinary (text : List Bool) (v : ℕ) : Type 0 where
  pub tail : List Bool
  pub one : text ≡ true ∷ tail
  pub value : number text ≡ v

-- the word is the ue(v) code of v: v + 1 in binary, and before it one zero fewer than that has digits; at most 31 zeros
pub record IsUe (word : List Bool) (v : ℕ) : Type 0 where
  pub text : List Bool
  pub binary : IsBinary text (v + 1)
  pub padded : word ≡ replicate (length text - 1) false ++ text
  pub short : length text ≤ 32

-- Table 9-3: the value of the se(v) code whose ue(v) value is k: 0, 1, -1, 2, -2 and so on
abbrev pub signed : ℕ → ℤ
signed k = if k % 2 == 1 then pos ((k + 1) / 2) else neg_ℤ (pos (k / 2))

-- the word is the se(v) code of v
pub record IsSe (word : List Bool) (v : ℤ) : Type 0 where
  pub k : ℕ
  pub code : IsUe word k
  pub value : signed k ≡ v

-- the bits end within a ue(v) code
pub record IsCut (bits : List Bool) : Type 0 where
  pub v : ℕ
  pub word : List Bool
  pub missing : List Bool
  pub code : IsUe word v
  pub front : word ≡ bits ++ missing
  pub ends : 0 < length missing

-- the bits begin with more zeros than a code may have
pub record IsTooLong (bits : List Bool) : Type 0 where
  pub more : List Bool
  pub zeros : bits ≡ replicate 32 false ++ more

-- more_rbsp_data(): a 1 stands past the bit at the place
abbrev pub HasMoreData : Place → Type 0
HasMoreData p = Contains (drop 1 p.rest) true

-- n zeros, at most 31, and then a 1
pub record IsZeros (bits : List Bool) (n : ℕ) : Type 0 where
  pub zeros : n ≡ prefix_len not bits
  pub one : n < length bits
  pub few : n < 32
