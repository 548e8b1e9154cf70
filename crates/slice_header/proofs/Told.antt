-- The type of a slice whose second byte tells it.
use Rattle.std.proofs.Common.{◌≡◌, ℕ, zero, suc, ◌/◌, ◌^◌, ◌%◌, ◌<◌, ◌≤◌, ◌==◌, Bool, true, false, List, [], ◌∷◌, ◌++◌, Option, Some, refl, ◌∙◌, ap, inl, inr, arith}
use Rattle.std.proofs.lemmas.Bool.{cases_lt}
use Rattle.annexb.specs.EmulationPrevention.{payload_of}
use Rattle.expgolomb.specs.Bits.{Place, bit_of, bits_of}
use Rattle.expgolomb.specs.Ranges.{any}
use Rattle.expgolomb.specs.Structures.{table_at}
use Rattle.expgolomb.specs.TableReading.{value_at, rows_at}
use Rattle.expgolomb.specs.Reading.{ue_at}
use Rattle.expgolomb.specs.Payloads.{after_first}
use Rattle.h264_types.specs.declared.slice_headers.slice_types.SliceType.TheVariants.{P, B, I}
use Rattle.h264_types.specs.declared.slice_headers.slice_types.SliceType.{SliceType}
use Rattle.expgolomb.proofs.Extensions.{table_extended}
use Rattle.slice_header.specs.declared.fault.HeaderFault.TheVariants.{Cut}
use Rattle.slice_header.specs.FrontSyntax.{type_table}
use Rattle.slice_header.proofs.Fronts.{cut_is, same_type}
use Rattle.slice_header.specs.Fronts.{slice_type_at, type_of}

-- no byte of the first two is left out, where the second isn't 0
pub payload_begins : (header byte : ℕ) (more : List ℕ) → 1 ≤ byte → payload_of (header ∷ byte ∷ more) ≡ header ∷ byte ∷ payload_of more
payload_begins zero (suc b) more some = refl
payload_begins (suc h) (suc b) more some = refl
payload_begins header zero more some = absurd (omega (arith, some))

-- so the bits of the second are those that the fields begin with
type_at : (header byte : ℕ) (more : List ℕ) (told : _) → 1 ≤ byte → type_of (table_at (type_table any) (after_first (header ∷ byte ∷ payload_of more))) ≡ told → slice_type_at (header ∷ byte ∷ more) ≡ told
unfolding slice_type_at
type_at header byte more told some is = rw (payload_begins header byte more some) is

-- the values 0, 1, 2, 5, 6 and 7 of slice_type after a first_mb_in_slice of 0
abbrev read : List Bool → Option SliceType
read bits = type_of (table_at (type_table any) (record { before = 8; rest = bits }))

-- what is read of some bits is read of them and more
read_more : (bits more : List Bool) (told : SliceType) → read bits ≡ Some told → read (bits ++ more) ≡ Some told
read_more bits more told is =
    let p : Place = record { before = 8; rest = bits } in
    ap type_of (table_extended Cut more (type_table any) (cut_is _ refl refl, (cut_is _ refl refl, tt)) p (λ cut. cc (rw cut at is)))
    ∙ (same_type more (table_at (type_table any) p) ∙ is)

read_p0 : read (true ∷ true ∷ []) ≡ Some P
unfolding table_at rows_at value_at ue_at
read_p0 = refl

read_b1 : read (true ∷ false ∷ true ∷ false ∷ []) ≡ Some B
unfolding table_at rows_at value_at ue_at
read_b1 = refl

read_i2 : read (true ∷ false ∷ true ∷ true ∷ []) ≡ Some I
unfolding table_at rows_at value_at ue_at
read_i2 = refl

read_p5 : read (true ∷ false ∷ false ∷ true ∷ true ∷ false ∷ []) ≡ Some P
unfolding table_at rows_at value_at ue_at
read_p5 = refl

read_b6 : read (true ∷ false ∷ false ∷ true ∷ true ∷ true ∷ []) ≡ Some B
unfolding table_at rows_at value_at ue_at
read_b6 = refl

read_i7 : read (true ∷ false ∷ false ∷ false ∷ true ∷ false ∷ false ∷ false ∷ []) ≡ Some I
unfolding table_at rows_at value_at ue_at
read_i7 = refl

-- the same of bits that are known to be those
p0 : (a b : Bool) (more : List Bool) → a ≡ true → b ≡ true → read (a ∷ b ∷ more) ≡ Some P
p0 a b more ea eb = rw (ea, eb) (read_more (true ∷ true ∷ []) more P read_p0)

b1 : (a b c d : Bool) (more : List Bool) → a ≡ true → b ≡ false → c ≡ true → d ≡ false → read (a ∷ b ∷ c ∷ d ∷ more) ≡ Some B
b1 a b c d more ea eb ec ed = rw (ea, eb, ec, ed) (read_more (true ∷ false ∷ true ∷ false ∷ []) more B read_b1)

i2 : (a b c d : Bool) (more : List Bool) → a ≡ true → b ≡ false → c ≡ true → d ≡ true → read (a ∷ b ∷ c ∷ d ∷ more) ≡ Some I
i2 a b c d more ea eb ec ed = rw (ea, eb, ec, ed) (read_more (true ∷ false ∷ true ∷ true ∷ []) more I read_i2)

p5 : (a b c d e f : Bool) (more : List Bool) → a ≡ true → b ≡ false → c ≡ false → d ≡ true → e ≡ true → f ≡ false → read (a ∷ b ∷ c ∷ d ∷ e ∷ f ∷ more) ≡ Some P
p5 a b c d e f more ea eb ec ed ee ef = rw (ea, eb, ec, ed, ee, ef) (read_more (true ∷ false ∷ false ∷ true ∷ true ∷ false ∷ []) more P read_p5)

b6 : (a b c d e f : Bool) (more : List Bool) → a ≡ true → b ≡ false → c ≡ false → d ≡ true → e ≡ true → f ≡ true → read (a ∷ b ∷ c ∷ d ∷ e ∷ f ∷ more) ≡ Some B
b6 a b c d e f more ea eb ec ed ee ef = rw (ea, eb, ec, ed, ee, ef) (read_more (true ∷ false ∷ false ∷ true ∷ true ∷ true ∷ []) more B read_b6)

i7 : (more : List Bool) → read (true ∷ false ∷ false ∷ false ∷ true ∷ false ∷ false ∷ false ∷ more) ≡ Some I
i7 more = read_more (true ∷ false ∷ false ∷ false ∷ true ∷ false ∷ false ∷ false ∷ []) more I read_i7

-- a bit of a byte
pub one : (byte k : ℕ) → byte / 2 ^ k % 2 ≡ 1 → bit_of byte k ≡ true
one byte k is = ap (λ n. n == 1) is

pub nought : (byte k : ℕ) → byte / 2 ^ k % 2 ≡ 0 → bit_of byte k ≡ false
nought byte k is = ap (λ n. n == 1) is

pub told_p0 : (byte : ℕ) → 192 ≤ byte → byte < 256 → (header : ℕ) (more : List ℕ) → slice_type_at (header ∷ byte ∷ more) ≡ Some P
told_p0 byte least below header more =
    type_at header byte more (Some P) (omega (arith, least)) (p0 (bit_of byte 7) (bit_of byte 6) _
    (one byte 7 (omega (arith, least, below))) (one byte 6 (omega (arith, least, below))))

pub told_i2 : (byte : ℕ) → 176 ≤ byte → byte < 192 → (header : ℕ) (more : List ℕ) → slice_type_at (header ∷ byte ∷ more) ≡ Some I
told_i2 byte least below header more =
    type_at header byte more (Some I) (omega (arith, least)) (i2 (bit_of byte 7) (bit_of byte 6) (bit_of byte 5) (bit_of byte 4) _
    (one byte 7 (omega (arith, least, below))) (nought byte 6 (omega (arith, least, below))) (one byte 5 (omega (arith, least, below))) (one byte 4 (omega (arith, least, below))))

told_b1 : (byte : ℕ) → 160 ≤ byte → byte < 176 → (header : ℕ) (more : List ℕ) → slice_type_at (header ∷ byte ∷ more) ≡ Some B
told_b1 byte least below header more =
    type_at header byte more (Some B) (omega (arith, least)) (b1 (bit_of byte 7) (bit_of byte 6) (bit_of byte 5) (bit_of byte 4) _
    (one byte 7 (omega (arith, least, below))) (nought byte 6 (omega (arith, least, below))) (one byte 5 (omega (arith, least, below))) (nought byte 4 (omega (arith, least, below))))

told_b6 : (byte : ℕ) → 156 ≤ byte → byte < 160 → (header : ℕ) (more : List ℕ) → slice_type_at (header ∷ byte ∷ more) ≡ Some B
told_b6 byte least below header more =
    type_at header byte more (Some B) (omega (arith, least)) (b6 (bit_of byte 7) (bit_of byte 6) (bit_of byte 5) (bit_of byte 4) (bit_of byte 3) (bit_of byte 2) _
    (one byte 7 (omega (arith, least, below))) (nought byte 6 (omega (arith, least, below))) (nought byte 5 (omega (arith, least, below))) (one byte 4 (omega (arith, least, below)))
    (one byte 3 (omega (arith, least, below))) (one byte 2 (omega (arith, least, below))))

pub told_b : (byte : ℕ) → 156 ≤ byte → byte < 176 → (header : ℕ) (more : List ℕ) → slice_type_at (header ∷ byte ∷ more) ≡ Some B
told_b byte least below header more =
    elim (cases_lt byte 160) [
      | inl less ↦ told_b6 byte least less header more
      | inr other ↦ told_b1 byte other below header more
    ]

pub told_p5 : (byte : ℕ) → 152 ≤ byte → byte < 156 → (header : ℕ) (more : List ℕ) → slice_type_at (header ∷ byte ∷ more) ≡ Some P
told_p5 byte least below header more =
    type_at header byte more (Some P) (omega (arith, least)) (p5 (bit_of byte 7) (bit_of byte 6) (bit_of byte 5) (bit_of byte 4) (bit_of byte 3) (bit_of byte 2) _
    (one byte 7 (omega (arith, least, below))) (nought byte 6 (omega (arith, least, below))) (nought byte 5 (omega (arith, least, below))) (one byte 4 (omega (arith, least, below)))
    (one byte 3 (omega (arith, least, below))) (nought byte 2 (omega (arith, least, below))))

pub told_i7 : (byte : ℕ) → byte ≡ 136 → (header : ℕ) (more : List ℕ) → slice_type_at (header ∷ byte ∷ more) ≡ Some I
told_i7 byte is header more =
    rw is (type_at header 136 more (Some I) (omega arith) (i7 (bits_of (payload_of more))))
