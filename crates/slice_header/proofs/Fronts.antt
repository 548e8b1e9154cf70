-- The front of a payload, and what is read from it.
use Rattle.std.proofs.Common.{◌≡◌, ℕ, ◌+◌, ◌*◌, ◌≤◌, Bool, true, false, cond, List, [], ◌∷◌, ◌++◌, length, take, drop, None, Some, Result, Ok, Err, ℤ, pos, negsuc, refl, sym, ◌∙◌, ap, arith, inl, inr, leb}
use Rattle.std.specs.List.{AllByRecursion}
use Rattle.std.proofs.lemmas.Bool.{cases_lt, le-leb}
use Rattle.std.proofs.lemmas.List.{take-append-drop, take_all, drop-append-le, length-take-le, length-drop}
use Rattle.expgolomb.specs.declared.fault.CodeFault.{CodeFault}
use Rattle.expgolomb.specs.declared.fault.CodeFault.TheVariants as code
use Rattle.expgolomb.specs.Bits.{Place, bits_of, start}
use Rattle.expgolomb.specs.Reading.{fixed_at, ue_at}
use Rattle.expgolomb.proofs.Numbers.{length-bits_of, bits_of-append}
use Rattle.expgolomb.specs.Grammar.{Unsigned}
use Rattle.expgolomb.specs.Ranges.{any, at_most}
use Rattle.expgolomb.specs.TableReading.{value_at, rows_at}
use Rattle.expgolomb.specs.Payloads.{after_first}
use Rattle.slice_header.specs.declared.fault.HeaderFault.{HeaderFault}
use Rattle.slice_header.specs.declared.fault.HeaderFault.TheVariants.{Cut, Value}
use Rattle.slice_header.specs.FrontSyntax.{FrontRow, front_table, type_table, first_mb_row, slice_type_row, parameter_set_row}
use Rattle.slice_header.specs.HeaderRows.{ue_of}
use Rattle.slice_header.specs.Fronts.{read_value, type_of}
use Rattle.expgolomb.specs.Structures.{Table, table_at}
use Rattle.expgolomb.proofs.Extensions.{CutIs, extended, after_extended, table_extended}
use Rattle.expgolomb.proofs.Lengths.{IsUnsignedRow, rows_uncut}

-- only an empty payload has no first byte
pub first_missing : (payload : List ℕ) (e : CodeFault) → fixed_at 8 (start payload) ≡ Err e → (e ≡ code.Cut) × (payload ≡ [])
first_missing [] e is = (cc, refl)
first_missing (byte ∷ bytes) e is =
    let there : 8 ≤ length (bits_of (byte ∷ bytes)) = rw (length-bits_of (byte ∷ bytes)) (omega arith) in
    absurd (cc (rw (le-leb 8 (length (bits_of (byte ∷ bytes))) there) at is))

-- and nothing is read from it
pub front_missing : (range : _) → table_at (front_table range) (after_first []) ≡ Err Cut
unfolding table_at rows_at value_at ue_at
front_missing range = refl

pub type_missing : (range : _) → table_at (type_table range) (after_first []) ≡ Err Cut
unfolding table_at rows_at value_at ue_at
type_missing range = refl

-- the bits of a payload are those of its front and those after it
pub after_first-front : (n : ℕ) (payload : List ℕ) → 1 ≤ n → n ≤ length payload → after_first payload ≡ extended (bits_of (drop n payload)) (after_first (take n payload))
after_first-front n payload some inside =
    let front = bits_of (take n payload) in
    let whole : bits_of payload ≡ front ++ bits_of (drop n payload) =
    ap bits_of (sym (take-append-drop n payload)) ∙ bits_of-append (take n payload) (drop n payload) in
    let long : length front ≡ 8 * n = length-bits_of (take n payload) ∙ ap (λ k. 8 * k) (length-take-le n payload inside) in
    ap (λ (rest : List Bool). record { before = 8; rest = rest }) (ap (drop 8) whole ∙ drop-append-le 8 front (bits_of (drop n payload)) (omega arith))

-- A table of ue(v) codes is read from a front that has room for them as from the whole payload.
module _ {S : Type 0} {F : Type 0} (table : Table F S HeaderFault) (cuts : AllByRecursion (CutIs Cut) table.rows) (codes : AllByRecursion (IsUnsignedRow Cut) table.rows) (n : ℕ) (payload : List ℕ) (room : 63 * length table.rows + 8 ≤ 8 * n) where
  uncut : n ≤ length payload → table_at table (after_first (take n payload)) ≡ Err Cut → ⊥
  unfolding table_at
  uncut inside =
      let long : length (bits_of (take n payload)) ≡ 8 * n = length-bits_of (take n payload) ∙ ap (λ k. 8 * k) (length-take-le n payload inside) in
      rows_uncut Cut table.take table.rows codes table.absent (after_first (take n payload)) (rw length-drop (omega arith))

  pub front_read : {X : Type 0} (view : Result (S × Place) HeaderFault → X) → ((more : List Bool) (r : Result (S × Place) HeaderFault) → view (after_extended more r) ≡ view r) → view (table_at table (after_first (take n payload))) ≡ view (table_at table (after_first payload))
  front_read view same =
      elim (cases_lt n (length payload)) [
        | inl inside ↦
            let p = after_first (take n payload) in
            let more = bits_of (drop n payload) in
            sym (ap (λ q. view (table_at table q)) (after_first-front n payload (omega arith) (omega arith))
            ∙ (ap view (table_extended Cut more table cuts p (uncut (omega arith))) ∙ same more (table_at table p)))
        | inr all ↦ ap (λ bytes. view (table_at table (after_first bytes))) (take_all n payload all)
      ]

pub same_value : {A : Type 0} (more : List Bool) (r : Result (A × Place) HeaderFault) → read_value (after_extended more r) ≡ read_value r
same_value more (Ok x) = refl
same_value more (Err e) = refl

pub same_type : (more : List Bool) (r : _) → type_of (after_extended more r) ≡ type_of r
same_type more (Ok x) = refl
same_type more (Err e) = refl

at_most-Value : (most : ℕ) (v : ℤ) → at_most most Value v ≡ Some Cut → ⊥
at_most-Value most (pos k) is = go (leb k most) refl is
  where
    go : (b : Bool) → leb k most ≡ b → cond b None (Some Value) ≡ Some Cut → ⊥
    go true here same = cc
    go false here same = cc
at_most-Value most (negsuc k) is = cc

pub cut_is : (row : FrontRow) → row.cut ≡ Cut → row.code ≡ Unsigned → CutIs Cut row
cut_is row fault code = record { fault = fault; plain = rw code tt }

first_mb : IsUnsignedRow Cut (first_mb_row any)
first_mb = record { code = refl; long = λ same. cc; range = λ s v is. cc }

limited : (row : FrontRow) (most : ℕ) → row ≡ ue_of row.field row.present (λ s. at_most most Value) → IsUnsignedRow Cut row
limited row most is = rw is record { code = refl; long = λ same. cc; range = λ s v. at_most-Value most v }

-- the first three fields, and the first two, from a front
pub front_is : (payload : List ℕ) → read_value (table_at (front_table any) (after_first (take 64 payload))) ≡ read_value (table_at (front_table any) (after_first payload))
front_is payload =
    front_read (front_table any) (cut_is _ refl refl, (cut_is _ refl refl, (cut_is _ refl refl, tt)))
    (first_mb, (limited slice_type_row 9 refl, (limited parameter_set_row 255 refl, tt))) 64 payload (omega arith) read_value same_value

pub type_is : (payload : List ℕ) → type_of (table_at (type_table any) (after_first (take 17 payload))) ≡ type_of (table_at (type_table any) (after_first payload))
type_is payload =
    front_read (type_table any) (cut_is _ refl refl, (cut_is _ refl refl, tt))
    (first_mb, (limited slice_type_row 9 refl, tt)) 17 payload (omega arith) type_of same_type
