-- The type of a slice, by its header and by the first fields of it alone (ITU-T H.264, 7.3.3).
use Rattle.std.specs.Prelude.{nat_abs, not, ◌==◌}
use Rattle.std.proofs.Common.{◌≡◌, ℕ, ◌-◌, List, [], ◌∷◌, Option, None, Some, Result, Ok, Err, ℤ, refl, sym, ap, ◌∙◌, subst}
use Rattle.expgolomb.specs.declared.fault.CodeFault.{CodeFault}
use Rattle.expgolomb.specs.declared.fault.CodeFault.TheVariants as code
use Rattle.expgolomb.specs.Bits.{Place}
use Rattle.annexb.specs.NalUnit.{nal_unit_type, nal_ref_idc}
use Rattle.h264_types.specs.declared.param_sets.sps.Sps.{Sps}
use Rattle.h264_types.specs.declared.param_sets.pps.Pps.{Pps}
use Rattle.h264_types.specs.declared.slice_headers.slice_headers.SliceHeader.{SliceHeader}
use Rattle.h264_types.specs.SliceTypes.{slice_type_of}
use Rattle.expgolomb.specs.Grammar.{Code}
use Rattle.expgolomb.specs.Ranges.{any, at_most}
use Rattle.expgolomb.specs.TableReading.{in_range, checked, code_at, value_at, field_at, rows_at}
use Rattle.expgolomb.specs.Structures.{Table, Syntax, Says, Here, Structure, followed_by, table_at, syntax_at}
use Rattle.expgolomb.proofs.Structures.{followed_by_at}
use Rattle.slice_header.specs.declared.fault.HeaderFault.{HeaderFault}
use Rattle.slice_header.specs.declared.fault.HeaderFault.TheVariants.{Value}
use Rattle.slice_header.specs.declared.front.HeaderFront.{HeaderFront}
use Rattle.slice_header.specs.FrontSyntax.{no_front, take_front, FirstMbInSlice, SliceTypeCode, PicParameterSetId, first_mb_row, slice_type_row, parameter_set_row, front_table, type_table}
use Rattle.slice_header.specs.Fronts.{unit_bits, type_of, slice_type_at}
use Rattle.slice_header.proofs.FrontLaws.{with_place}
use Rattle.slice_header.specs.SliceHeaderSyntax.{pic_size_in_mbs, picture_syntax, reference_syntax, ending_syntax, header_syntax}
use Rattle.slice_header.specs.SliceHeaders.{syntax_of, header_at}
use Rattle.stream_fold.proofs.Chains.{then_ok}

-- a value in its range is one in any range
in_any_range : {E : Type 0} (fault : Option E) (read x : ℤ × Place) → in_range fault read ≡ Ok x → in_range (any {E = E} read.0) read ≡ Ok x
in_any_range None read x is = is
in_any_range (Some fault) read x is = absurd cc

checked_in_any : {E : Type 0} (cut long : E) (range : ℤ → Option E) (read : Result (ℤ × Place) CodeFault) (x : ℤ × Place)
    → checked cut long range read ≡ Ok x → checked cut long any read ≡ Ok x
checked_in_any cut long range (Ok read) x is = in_any_range (range read.0) read x is
checked_in_any cut long range (Err code.Cut) x is = absurd cc
checked_in_any cut long range (Err code.TooLong) x is = absurd cc

value_in_any : {E : Type 0} (code : Code) (cut long : E) (range : ℤ → Option E) (p : Place) (x : ℤ × Place)
    → value_at code cut long range p ≡ Ok x → value_at code cut long any p ≡ Ok x
unfolding value_at
value_in_any code cut long range p x is = checked_in_any cut long range (code_at code p) x is

-- the third field leaves the type
type_kept : (second : HeaderFront) (id : ℤ) (p : Place) (x : HeaderFront × Place)
    → rows_at {E = HeaderFault} take_front [] (take_front PicParameterSetId id second) p ≡ Ok x
    → second.slice_type ≡ x.0.slice_type
unfolding rows_at
type_kept second id p x is =
    let same : (take_front PicParameterSetId id second, p) ≡ x = cc in ap (λ (y : HeaderFront × Place). y.0.slice_type) same

-- the first two fields of three that can be read
first_two : (range : ℤ → Option HeaderFault) (p : Place) (front : HeaderFront) (after : Place)
    → table_at (front_table range) p ≡ Ok (front, after)
    → (one : ℤ × Place) × (two : ℤ × Place) × (field_at (first_mb_row range) no_front p ≡ Ok one)
    × (field_at slice_type_row (take_front FirstMbInSlice one.0 no_front) one.1 ≡ Ok two)
    × (slice_type_of (nat_abs two.0) ≡ front.slice_type)
unfolding table_at rows_at
first_two range p front after is =
    let one = then_ok (field_at (first_mb_row range) no_front p)
    (λ x. rows_at take_front (slice_type_row ∷ parameter_set_row ∷ []) (take_front FirstMbInSlice x.0 no_front) x.1) (front, after) is in
    let first = take_front FirstMbInSlice one.0.0 no_front in
    let two = then_ok (field_at slice_type_row first one.0.1)
    (λ x. rows_at take_front (parameter_set_row ∷ []) (take_front SliceTypeCode x.0 first) x.1) (front, after) one.2 in
    let second = take_front SliceTypeCode two.0.0 first in
    let three = then_ok (field_at parameter_set_row second two.0.1)
    (λ x. rows_at take_front [] (take_front PicParameterSetId x.0 second) x.1) (front, after) two.2 in
    (one.0, two.0, one.1, two.1, type_kept second three.0.0 three.0.1 (front, after) three.2)

-- the type that two fields say
type_read : (p : Place) (one two : ℤ × Place) → field_at (first_mb_row any) no_front p ≡ Ok one
    → field_at slice_type_row (take_front FirstMbInSlice one.0 no_front) one.1 ≡ Ok two
    → type_of (table_at (type_table any) p) ≡ Some (slice_type_of (nat_abs two.0))
unfolding table_at rows_at
type_read p one two first second = rw (first, second) refl

-- three that can be read begin with them
front_type : (range : ℤ → Option HeaderFault) (p : Place) (front : HeaderFront) (after : Place)
    → table_at (front_table range) p ≡ Ok (front, after) → type_of (table_at (type_table any) p) ≡ Some front.slice_type
front_type range p front after is =
    let read = first_two range p front after is in
    type_read p read.0 read.1 (value_in_any _ _ _ range p read.0 read.2) read.3 ∙ ap Some read.4

-- what holds of all that syntax can say
module _ {A E : Type 0} (P : A → Type 0) where
  record SaysOnly (syntax : Syntax A E) : Type 0 where
    says : (p : Place) (x : A × Place) → syntax_at syntax p ≡ Ok x → P x.0

  says : (a : A) → P a → SaysOnly (Says a)
  unfolding syntax_at
  says a holds = record {
    says = λ p x is. let same : (a, p) ≡ x = cc in subst (λ (y : A × Place). P y.0) same holds;
  }

  here : (next : ℕ → Syntax A E) → ((n : ℕ) → SaysOnly (next n)) → SaysOnly (Here next)
  unfolding syntax_at
  here next each = record { says = λ p x is. (each p.before).says p x is }

  structure : {F S : Type 0} (table : Table F S E) (next : S → Syntax A E) → ((s : S) → SaysOnly (next s)) → SaysOnly (Structure table next)
  unfolding syntax_at
  structure table next each = record {
    says = λ p x is. let read = then_ok (table_at table p) (λ y. syntax_at (next y.0) y.1) x is in (each read.0.0).says read.0.1 x read.2;
  }

  followed : {B : Type 0} (syntax : Syntax B E) (more : B → Syntax A E) → ((b : B) → SaysOnly (more b)) → SaysOnly (followed_by syntax more)
  followed syntax more each = record {
    says = λ p x is.
        let read = then_ok (syntax_at syntax p) (λ y. syntax_at (more y.0) y.1) x (sym (followed_by_at syntax more p) ∙ is) in
        (each read.0.0).says read.0.1 x read.2;
  }

-- what is read of a structure, and what holds of all that can follow it
first_structure : {A E F S : Type 0} (P : S → A → Type 0) (table : Table F S E) (next : S → Syntax A E) (p : Place) (x : A × Place)
    → syntax_at (Structure table next) p ≡ Ok x → ((s : S) → SaysOnly (P s) (next s))
    → (s : S) × (after : Place) × (table_at table p ≡ Ok (s, after)) × P s x.0
unfolding syntax_at
first_structure P table next p x is each =
    let read = then_ok (table_at table p) (λ y. syntax_at (next y.0) y.1) x is in
    (read.0.0, read.0.1, read.1, (each read.0.0).says read.0.1 x read.2)

-- a header has the type of its first fields
header_said : (ref_idc unit_type : ℕ) (sps : Sps) (pps : Pps) (p : Place) (x : SliceHeader × Place)
    → syntax_at (header_syntax ref_idc unit_type sps pps) p ≡ Ok x
    → (front : HeaderFront) × (after : Place) × (table_at (front_table (at_most (pic_size_in_mbs sps - 1) Value)) p ≡ Ok (front, after))
    × ((x.0.nal_unit_type ≡ unit_type) × (x.0.slice_type ≡ front.slice_type))
unfolding header_syntax picture_syntax followed_by
header_said ref_idc unit_type sps pps p x is =
    first_structure (λ (front : HeaderFront) (header : SliceHeader). (header.nal_unit_type ≡ unit_type) × (header.slice_type ≡ front.slice_type))
    _ _ p x is
    (λ front. structure _ _ _ (λ numbers. here _ _ (λ orders_from. structure _ _ _ (λ orders. here _ _ (λ orders_to.
    followed _ (reference_syntax front.slice_type sps pps) _ (λ references.
    followed _ (ending_syntax (not (ref_idc == 0)) (unit_type == 5) front.slice_type pps) _ (λ ending. says _ _ (refl, refl))))))))

-- the unit's type is that of its header, and the slice's type is the one that stands in its first
-- fields
pub header_type : (unit : List ℕ) (sps : Sps) (pps : Pps) (header : SliceHeader) → header_at unit sps pps ≡ Ok header
    → (header.nal_unit_type ≡ nal_unit_type unit) × (slice_type_at unit ≡ Some header.slice_type)
unfolding header_at slice_type_at
header_type unit sps pps header is =
    let read = with_place (syntax_at (syntax_of unit sps pps) (unit_bits unit)) header is in
    let said = header_said (nal_ref_idc unit) (nal_unit_type unit) sps pps (unit_bits unit) (header, read.0) read.1 in
    let front = front_type (at_most (pic_size_in_mbs sps - 1) Value) (unit_bits unit) said.0 said.1 said.2 in
    (said.3.0, front ∙ ap Some (sym said.3.1))
