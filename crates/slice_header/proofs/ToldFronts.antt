-- The first fields of a slice whose second byte tells them.
use Rattle.std.proofs.Common.{◌≡◌, ℕ, ◌/◌, ◌<◌, ◌≤◌, Bool, true, false, List, [], ◌∷◌, ◌++◌, Result, Ok, refl, ◌∙◌, ap, arith}
use Rattle.annexb.specs.EmulationPrevention.{payload_of}
use Rattle.expgolomb.specs.Bits.{Place, bit_of}
use Rattle.expgolomb.specs.Ranges.{any}
use Rattle.expgolomb.specs.Structures.{table_at}
use Rattle.expgolomb.specs.TableReading.{value_at, rows_at}
use Rattle.expgolomb.specs.Reading.{ue_at}
use Rattle.expgolomb.specs.Payloads.{after_first}
use Rattle.expgolomb.proofs.Extensions.{table_extended}
use Rattle.h264_types.specs.declared.slice_headers.slice_types.SliceType.{SliceType}
use Rattle.h264_types.specs.declared.slice_headers.slice_types.SliceType.TheVariants.{P, B, I}
use Rattle.slice_header.specs.declared.fault.HeaderFault.{HeaderFault}
use Rattle.slice_header.specs.declared.fault.HeaderFault.TheVariants.{Cut}
use Rattle.slice_header.specs.declared.front.HeaderFront.{HeaderFront}
use Rattle.slice_header.specs.FrontSyntax.{front_table}
use Rattle.slice_header.specs.Fronts.{front_at, read_value}
use Rattle.slice_header.proofs.Fronts.{cut_is, same_value}
use Rattle.slice_header.proofs.Told.{payload_begins, one, nought}

-- first_mb_in_slice 0, the type, and pic_parameter_set_id 0
abbrev of_type : SliceType → HeaderFront
of_type told = record { first_mb_in_slice = 0; slice_type = told; pic_parameter_set_id = 0 }

-- the bits of the second byte are those that the fields begin with
front_from : (header byte : ℕ) (more : List ℕ) (told : Result HeaderFront HeaderFault) → 1 ≤ byte → read_value (table_at (front_table any) (after_first (header ∷ byte ∷ payload_of more))) ≡ told → front_at (header ∷ byte ∷ more) ≡ told
unfolding front_at
front_from header byte more told some is = rw (payload_begins header byte more some) is

abbrev read : List Bool → Result HeaderFront HeaderFault
read bits = read_value (table_at (front_table any) (record { before = 8; rest = bits }))

-- what is read of some bits is read of them and more
read_more : (bits more : List Bool) (told : HeaderFront) → read bits ≡ Ok told → read (bits ++ more) ≡ Ok told
read_more bits more told is =
    let p : Place = record { before = 8; rest = bits } in
    ap read_value (table_extended Cut more (front_table any) (cut_is _ refl refl, (cut_is _ refl refl, (cut_is _ refl refl, tt))) p (λ cut. cc (rw cut at is)))
    ∙ (same_value more (table_at (front_table any) p) ∙ is)

read_p0 : read (true ∷ true ∷ true ∷ []) ≡ Ok (of_type P)
unfolding table_at rows_at value_at ue_at
read_p0 = refl

p0 : (a b c : Bool) (more : List Bool) → a ≡ true → b ≡ true → c ≡ true → read (a ∷ b ∷ c ∷ more) ≡ Ok (of_type P)
p0 a b c more ea eb ec = rw (ea, eb, ec) (read_more (true ∷ true ∷ true ∷ []) more (of_type P) read_p0)

pub front_p0 : (byte : ℕ) → 224 ≤ byte → byte < 256 → (header : ℕ) (more : List ℕ) → front_at (header ∷ byte ∷ more) ≡ Ok (of_type P)
front_p0 byte least below header more =
    front_from header byte more (Ok (of_type P)) (omega (arith, least, below)) (p0 (bit_of byte 7) (bit_of byte 6) (bit_of byte 5) _
    (one byte 7 (omega (arith, least, below))) (one byte 6 (omega (arith, least, below))) (one byte 5 (omega (arith, least, below))))

read_i2 : read (true ∷ false ∷ true ∷ true ∷ true ∷ []) ≡ Ok (of_type I)
unfolding table_at rows_at value_at ue_at
read_i2 = refl

i2 : (a b c d e : Bool) (more : List Bool) → a ≡ true → b ≡ false → c ≡ true → d ≡ true → e ≡ true → read (a ∷ b ∷ c ∷ d ∷ e ∷ more) ≡ Ok (of_type I)
i2 a b c d e more ea eb ec ed ee = rw (ea, eb, ec, ed, ee) (read_more (true ∷ false ∷ true ∷ true ∷ true ∷ []) more (of_type I) read_i2)

pub front_i2 : (byte : ℕ) → byte / 8 ≡ 23 → (header : ℕ) (more : List ℕ) → front_at (header ∷ byte ∷ more) ≡ Ok (of_type I)
front_i2 byte is header more =
    front_from header byte more (Ok (of_type I)) (omega (arith, is)) (i2 (bit_of byte 7) (bit_of byte 6) (bit_of byte 5) (bit_of byte 4) (bit_of byte 3) _
    (one byte 7 (omega (arith, is))) (nought byte 6 (omega (arith, is))) (one byte 5 (omega (arith, is))) (one byte 4 (omega (arith, is))) (one byte 3 (omega (arith, is))))

read_b1 : read (true ∷ false ∷ true ∷ false ∷ true ∷ []) ≡ Ok (of_type B)
unfolding table_at rows_at value_at ue_at
read_b1 = refl

b1 : (a b c d e : Bool) (more : List Bool) → a ≡ true → b ≡ false → c ≡ true → d ≡ false → e ≡ true → read (a ∷ b ∷ c ∷ d ∷ e ∷ more) ≡ Ok (of_type B)
b1 a b c d e more ea eb ec ed ee = rw (ea, eb, ec, ed, ee) (read_more (true ∷ false ∷ true ∷ false ∷ true ∷ []) more (of_type B) read_b1)

pub front_b1 : (byte : ℕ) → byte / 8 ≡ 21 → (header : ℕ) (more : List ℕ) → front_at (header ∷ byte ∷ more) ≡ Ok (of_type B)
front_b1 byte is header more =
    front_from header byte more (Ok (of_type B)) (omega (arith, is)) (b1 (bit_of byte 7) (bit_of byte 6) (bit_of byte 5) (bit_of byte 4) (bit_of byte 3) _
    (one byte 7 (omega (arith, is))) (nought byte 6 (omega (arith, is))) (one byte 5 (omega (arith, is))) (nought byte 4 (omega (arith, is))) (one byte 3 (omega (arith, is))))

read_b6 : read (true ∷ false ∷ false ∷ true ∷ true ∷ true ∷ true ∷ []) ≡ Ok (of_type B)
unfolding table_at rows_at value_at ue_at
read_b6 = refl

b6 : (a b c d e f g : Bool) (more : List Bool) → a ≡ true → b ≡ false → c ≡ false → d ≡ true → e ≡ true → f ≡ true → g ≡ true → read (a ∷ b ∷ c ∷ d ∷ e ∷ f ∷ g ∷ more) ≡ Ok (of_type B)
b6 a b c d e f g more ea eb ec ed ee ef eg = rw (ea, eb, ec, ed, ee, ef, eg) (read_more (true ∷ false ∷ false ∷ true ∷ true ∷ true ∷ true ∷ []) more (of_type B) read_b6)

pub front_b6 : (byte : ℕ) → byte / 2 ≡ 79 → (header : ℕ) (more : List ℕ) → front_at (header ∷ byte ∷ more) ≡ Ok (of_type B)
front_b6 byte is header more =
    front_from header byte more (Ok (of_type B)) (omega (arith, is)) (b6 (bit_of byte 7) (bit_of byte 6) (bit_of byte 5) (bit_of byte 4) (bit_of byte 3) (bit_of byte 2) (bit_of byte 1) _
    (one byte 7 (omega (arith, is))) (nought byte 6 (omega (arith, is))) (nought byte 5 (omega (arith, is))) (one byte 4 (omega (arith, is))) (one byte 3 (omega (arith, is))) (one byte 2 (omega (arith, is))) (one byte 1 (omega (arith, is))))

read_p5 : read (true ∷ false ∷ false ∷ true ∷ true ∷ false ∷ true ∷ []) ≡ Ok (of_type P)
unfolding table_at rows_at value_at ue_at
read_p5 = refl

p5 : (a b c d e f g : Bool) (more : List Bool) → a ≡ true → b ≡ false → c ≡ false → d ≡ true → e ≡ true → f ≡ false → g ≡ true → read (a ∷ b ∷ c ∷ d ∷ e ∷ f ∷ g ∷ more) ≡ Ok (of_type P)
p5 a b c d e f g more ea eb ec ed ee ef eg = rw (ea, eb, ec, ed, ee, ef, eg) (read_more (true ∷ false ∷ false ∷ true ∷ true ∷ false ∷ true ∷ []) more (of_type P) read_p5)

pub front_p5 : (byte : ℕ) → byte / 2 ≡ 77 → (header : ℕ) (more : List ℕ) → front_at (header ∷ byte ∷ more) ≡ Ok (of_type P)
front_p5 byte is header more =
    front_from header byte more (Ok (of_type P)) (omega (arith, is)) (p5 (bit_of byte 7) (bit_of byte 6) (bit_of byte 5) (bit_of byte 4) (bit_of byte 3) (bit_of byte 2) (bit_of byte 1) _
    (one byte 7 (omega (arith, is))) (nought byte 6 (omega (arith, is))) (nought byte 5 (omega (arith, is))) (one byte 4 (omega (arith, is))) (one byte 3 (omega (arith, is))) (nought byte 2 (omega (arith, is))) (one byte 1 (omega (arith, is))))
