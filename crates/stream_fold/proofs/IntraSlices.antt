-- The slices of an IDR picture in an access unit that isn't refused are without lists (ITU-T H.264,
-- 7.4.1.2.4).
use Rattle.std.proofs.Common.{◌≡◌, ℕ, Bool, true, false, ◌&&◌, List, [], ◌∷◌, ◌++◌, All, Option, None, Some, Ok, refl, sym, ap, ◌∙◌}
use Rattle.std.specs.Prelude.{◌==◌}
use Rattle.std.specs.List.{AllByRecursion, filter}
use Rattle.std.specs.Option.{option_or}
use Rattle.std.proofs.lemmas.Bool.{or_right}
use Rattle.std.proofs.lemmas.List.Elements.{All-nil, All-cons}
use Rattle.annexb.specs.NalUnit.{nal_unit_type, is_slice}
use Rattle.h264_types.specs.declared.param_sets.sps.Sps.{Sps}
use Rattle.h264_types.specs.declared.param_sets.pps.Pps.{Pps}
use Rattle.h264_types.specs.declared.slice_headers.slice_types.SliceType.{SliceType}
use Rattle.h264_types.specs.declared.slice_headers.slice_types.SliceType.TheVariants.{P, B, I, Sp, Si}
use Rattle.h264_types.specs.declared.slice_headers.slice_headers.SliceHeader.{SliceHeader}
use Rattle.h264_types.specs.Pictures as headers
use Rattle.slice_header.specs.Fronts.{slice_type_at}
use Rattle.slice_header.specs.SliceHeaders.{header_at}
use Rattle.access_unit.specs.Refusals.{Row, first_shown, header_rows, set_rows, is_switching, is_inter, is_idr, order_rows, refusal_at, first_refusal, refusal_of}
use Rattle.slice_decoding.specs.ReferenceLists.{has_list_0}
use Rattle.stream_fold.proofs.SliceHeaders.{header_type}

-- a NAL unit that isn't refused for the type of its slice
pub record IsAllowed (unit : List ℕ) : Type 0 where
  pub no_switching : (is_slice unit && is_switching (slice_type_at unit)) ≡ false
  pub no_inter : (is_idr unit && is_inter (slice_type_at unit)) ≡ false

-- where no refusal is shown, none of the rows is
none_shown : (rows : List Row) → first_shown rows ≡ None → AllByRecursion (λ row. row.1 ≡ false) rows
none_shown [] is = tt
none_shown ((refused, true) ∷ rows) is = absurd cc
none_shown ((refused, false) ∷ rows) is = (refl, none_shown rows is)

not_refused : (before : List (List ℕ)) (unit : List ℕ) → refusal_at before unit ≡ None → IsAllowed unit
unfolding refusal_at header_rows set_rows order_rows
not_refused before unit is =
    let none = none_shown (header_rows unit ++ set_rows unit ++ order_rows (filter is_slice before) unit) is in
    record { no_switching = none.1.1.1.1.0; no_inter = none.1.1.1.1.1.1.0 }

neither : {A : Type 0} (first second : Option A) → option_or first second ≡ None → (first ≡ None) × (second ≡ None)
neither None second is = (refl, is)
neither (Some x) second is = absurd cc

all_allowed : (before units : List (List ℕ)) → first_refusal before units ≡ None → All IsAllowed units
all_allowed before [] is = All-nil IsAllowed
all_allowed before (unit ∷ units) is =
    let parts = neither (refusal_at before unit) (first_refusal (before ++ unit ∷ []) units) is in
    All-cons IsAllowed unit units (not_refused before unit parts.0) (all_allowed (before ++ unit ∷ []) units parts.1)

-- all NAL units of an access unit that isn't refused
pub allowed_units : (units : List (List ℕ)) → refusal_of units ≡ None → All IsAllowed units
allowed_units units is = all_allowed [] units is

second_false : (first second : Bool) → (first && second) ≡ false → first ≡ true → second ≡ false
second_false true second is holds = is
second_false false second is holds = absurd cc

no_list : (type : SliceType) → is_switching (Some type) ≡ false → is_inter (Some type) ≡ false → has_list_0 type ≡ false
no_list P switching inter = absurd cc
no_list B switching inter = absurd cc
no_list I switching inter = refl
no_list Sp switching inter = absurd cc
no_list Si switching inter = refl

-- the slice of such a NAL unit has no list where its picture is IDR
pub idr_without_lists : (unit : List ℕ) (sps : Sps) (pps : Pps) (header : SliceHeader) → IsAllowed unit → header_at unit sps pps ≡ Ok header
    → headers.is_idr header ≡ true → has_list_0 header.slice_type ≡ false
idr_without_lists unit sps pps header allowed read idr =
    let types = header_type unit sps pps header read in
    let five : (nal_unit_type unit == 5) ≡ true = ap (λ n. n == 5) (sym types.0) ∙ idr in
    let slice : is_slice unit ≡ true = or_right (nal_unit_type unit == 1) (nal_unit_type unit == 5) five in
    no_list header.slice_type
    (ap is_switching (sym types.1) ∙ second_false (is_slice unit) (is_switching (slice_type_at unit)) allowed.no_switching slice)
    (ap is_inter (sym types.1) ∙ second_false (is_idr unit) (is_inter (slice_type_at unit)) allowed.no_inter five)
