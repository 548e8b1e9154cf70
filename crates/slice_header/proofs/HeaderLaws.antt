-- Headers: from a prefix of a unit they are those of the whole, and what is read is what the unit has.
use Rattle.std.proofs.Common.{◌≡◌, ℕ, ◌+◌, ◌≤◌, Bool, true, false, List, [], length, take, drop, Result, Ok, Err, refl, sym, ◌∙◌, ap, subst, arith, inl, inr, ◌⊎◌, IfOk, IfErr}
use Rattle.std.specs.List.{AllByRecursion}
use Rattle.std.proofs.lemmas.Bool.{cases_lt}
use Rattle.std.proofs.lemmas.List.{take_all}
use Rattle.expgolomb.specs.Bits.{Place, bits_of}
use Rattle.h264_types.specs.declared.param_sets.sps.Sps.{Sps}
use Rattle.h264_types.specs.declared.param_sets.pps.Pps.{Pps}
use Rattle.expgolomb.specs.Payloads.{after_first}
use Rattle.slice_header.specs.declared.fault.HeaderFault.{HeaderFault}
use Rattle.slice_header.specs.declared.fault.HeaderFault.TheVariants.{Cut, Value, Memory}
use Rattle.h264_types.specs.declared.slice_headers.slice_types.SliceType.{SliceType}
use Rattle.slice_header.specs.declared.marking_syntax.MarkingFlags.{MarkingFlags}
use Rattle.slice_header.specs.declared.weight_syntax.Denominators.{Denominators}
use Rattle.h264_types.specs.declared.slice_headers.pred_weight_table.PredWeightTable.{PredWeightTable}
use Rattle.h264_types.specs.declared.slice_headers.slice_headers.SliceHeader.{SliceHeader}
use Rattle.slice_header.specs.SliceHeaders.{IsSliceHeader, HeaderHasFault, Answers, header_at, syntax_of}
use Rattle.slice_header.specs.Fronts.{read_value, unit_bits}
use Rattle.slice_header.specs.SliceHeaderSyntax.{header_syntax, picture_syntax, reference_syntax, ending_syntax, number_table, order_table, prediction_table, active_table, weights_of, coding_table, deblocking_table}
use Rattle.slice_header.specs.RefPicListModificationSyntax.{flag_table, command_table, commands_if, modification_syntax}
use Rattle.slice_header.specs.PredWeightTableSyntax.{denominator_table, luma_table, chroma_rows, chroma_table, entry_syntax, entries_syntax, weight_syntax, weights_if}
use Rattle.slice_header.specs.DecRefPicMarkingSyntax.{marking_table, operation_table, operations_syntax, operations_if, marking_after, marking_syntax}
use Rattle.expgolomb.specs.Structures.{Syntax, followed_by, syntax_at}
use Rattle.expgolomb.proofs.Extensions.{CutIs, AllCutsAre, followed_by_cuts, counted_cuts, ended_cuts, after_extended, syntax_extended}
use Rattle.slice_header.proofs.FrontLaws.{with_place, fault_is}
use Rattle.slice_header.proofs.Fronts.{front_missing, after_first-front}
use Rattle.expgolomb.proofs.Structures.{syntax_found, syntax_only, syntax_fault, fault_syntax}

-- an empty payload has no header
pub header_missing : (nal_ref_idc nal_unit_type : ℕ) (sps : Sps) (pps : Pps) → syntax_at (header_syntax nal_ref_idc nal_unit_type sps pps) (after_first []) ≡ Err Cut
unfolding header_syntax picture_syntax followed_by syntax_at
header_missing nal_ref_idc nal_unit_type sps pps = rw front_missing refl

-- each field that is cut is Cut
flag_cuts : (is_there : Bool) → AllByRecursion (CutIs Cut) (flag_table is_there).rows
unfolding flag_table
flag_cuts is_there = (record { fault = refl; plain = tt }, tt)

command_cuts : (most : ℕ) (room : Bool) → AllByRecursion (CutIs Cut) (command_table most room).rows
unfolding command_table
command_cuts most room = (record { fault = refl; plain = tt }, (record { fault = refl; plain = tt }, (record { fault = refl; plain = tt }, tt)))

commands_cuts : (active most : ℕ) (flag : Bool) → AllCutsAre Cut (commands_if active most flag)
commands_cuts active most false = tt
commands_cuts active most true = ended_cuts Cut (command_table most) (command_cuts most) (active + 1) []

modification_cuts : (is_there : Bool) (active most : ℕ) → AllCutsAre Cut (modification_syntax is_there active most)
unfolding modification_syntax
modification_cuts is_there active most = (flag_cuts is_there, commands_cuts active most)

denominator_cuts : (has_chroma : Bool) → AllByRecursion (CutIs Cut) (denominator_table has_chroma).rows
unfolding denominator_table
denominator_cuts has_chroma = (record { fault = refl; plain = tt }, (record { fault = refl; plain = tt }, tt))

luma_cuts : (n : ℕ) → AllByRecursion (CutIs Cut) (luma_table n).rows
unfolding luma_table
luma_cuts n = (record { fault = refl; plain = tt }, (record { fault = refl; plain = tt }, (record { fault = refl; plain = tt }, tt)))

chroma_cuts : (has_chroma : Bool) (n : ℕ) → AllByRecursion (CutIs Cut) (chroma_table has_chroma n).rows
unfolding chroma_table chroma_rows
chroma_cuts has_chroma n = (record { fault = refl; plain = tt }, (record { fault = refl; plain = tt }, (record { fault = refl; plain = tt }, (record { fault = refl; plain = tt }, (record { fault = refl; plain = tt }, tt)))))

entry_cuts : (has_chroma : Bool) (d : Denominators) → AllCutsAre Cut (entry_syntax has_chroma d)
unfolding entry_syntax
entry_cuts has_chroma d = (luma_cuts d.luma_log2_weight_denom, λ luma. (chroma_cuts has_chroma d.chroma_log2_weight_denom, λ chroma. tt))

entries_cuts : (has_chroma : Bool) (d : Denominators) (count : ℕ) → AllCutsAre Cut (entries_syntax has_chroma d count)
unfolding entries_syntax
entries_cuts has_chroma d count = counted_cuts Cut (entry_syntax has_chroma d) (entry_cuts has_chroma d) count []

weight_cuts : (has_chroma : Bool) (l0 l1 : ℕ) → AllCutsAre Cut (weight_syntax has_chroma l0 l1)
unfolding weight_syntax
weight_cuts has_chroma l0 l1 = (
  denominator_cuts has_chroma,
  λ d.
      followed_by_cuts Cut (entries_syntax has_chroma d l0) _ (entries_cuts has_chroma d l0) (λ w0.
      followed_by_cuts Cut (entries_syntax has_chroma d l1) _ (entries_cuts has_chroma d l1) (λ w1. tt)),
)

weights_cuts : (is_there : Bool) (table : Syntax PredWeightTable HeaderFault) → AllCutsAre Cut table → AllCutsAre Cut (weights_if is_there table)
weights_cuts false table all = tt
weights_cuts true table all = followed_by_cuts Cut table _ all (λ w. tt)

weights_of_cuts : (t : SliceType) (l0 l1 : ℕ) (sps : Sps) (pps : Pps) → AllCutsAre Cut (weights_of t l0 l1 sps pps)
unfolding weights_of
weights_of_cuts t l0 l1 sps pps = weights_cuts _ _ (weight_cuts _ _ _)

flags_cuts : (is_reference is_idr : Bool) → AllByRecursion (CutIs Cut) (marking_table is_reference is_idr).rows
unfolding marking_table
flags_cuts is_reference is_idr = (record { fault = refl; plain = tt }, (record { fault = refl; plain = tt }, (record { fault = refl; plain = tt }, tt)))

operation_cuts : (room : Bool) → AllByRecursion (CutIs Cut) (operation_table room).rows
unfolding operation_table
operation_cuts room = (record { fault = refl; plain = tt }, (record { fault = refl; plain = tt }, (record { fault = refl; plain = tt }, (record { fault = refl; plain = tt }, (record { fault = refl; plain = tt }, tt)))))

operations_cuts : AllCutsAre Cut operations_syntax
unfolding operations_syntax
operations_cuts = ended_cuts Cut operation_table operation_cuts 64 []

after_cuts : (is_idr : Bool) (flags : MarkingFlags) → AllCutsAre Cut (marking_after is_idr flags)
after_cuts true flags = tt
after_cuts false flags = go flags.adaptive_ref_pic_marking_mode_flag
  where
    go : (is_adaptive : Bool) → AllCutsAre Cut (operations_if is_adaptive)
    go false = tt
    go true = followed_by_cuts Cut operations_syntax _ operations_cuts (λ operations. tt)

marking_cuts : (is_reference is_idr : Bool) → AllCutsAre Cut (marking_syntax is_reference is_idr)
unfolding marking_syntax
marking_cuts is_reference is_idr = (flags_cuts is_reference is_idr, after_cuts is_idr)

picture_cuts : (is_idr : Bool) (sps : Sps) (pps : Pps) → AllCutsAre Cut (picture_syntax is_idr sps pps)
unfolding picture_syntax number_table order_table
picture_cuts is_idr sps pps = (
  (record { fault = refl; plain = tt }, (record { fault = refl; plain = tt }, (record { fault = refl; plain = tt }, tt))),
  λ front. (
    (record { fault = refl; plain = tt }, (record { fault = refl; plain = tt }, tt)),
    λ numbers orders_from. (
      (record { fault = refl; plain = tt }, (record { fault = refl; plain = tt }, (record { fault = refl; plain = tt }, (record { fault = refl; plain = tt }, tt)))),
      λ orders orders_to. tt,
    ),
  ),
)

reference_cuts : (t : SliceType) (sps : Sps) (pps : Pps) → AllCutsAre Cut (reference_syntax t sps pps)
unfolding reference_syntax prediction_table active_table
reference_cuts t sps pps = (
  (record { fault = refl; plain = tt }, (record { fault = refl; plain = tt }, tt)),
  λ prediction. (
    (record { fault = refl; plain = tt }, (record { fault = refl; plain = tt }, (record { fault = refl; plain = tt }, tt))),
    λ active.
        followed_by_cuts Cut (modification_syntax _ _ _) _ (modification_cuts _ _ _) (λ list0.
        followed_by_cuts Cut (modification_syntax _ _ _) _ (modification_cuts _ _ _) (λ list1.
        followed_by_cuts Cut (weights_of _ _ _ _ _) _ (weights_of_cuts _ _ _ _ _) (λ weights. tt))),
  ),
)

ending_cuts : (is_reference is_idr : Bool) (t : SliceType) (pps : Pps) → AllCutsAre Cut (ending_syntax is_reference is_idr t pps)
unfolding ending_syntax coding_table deblocking_table
ending_cuts is_reference is_idr t pps =
    λ marking_from.
    followed_by_cuts Cut (marking_syntax _ _) _ (marking_cuts _ _) (λ marking marking_to. (
      (record { fault = refl; plain = tt }, (record { fault = refl; plain = tt }, tt)),
      λ coding.
          ((record { fault = refl; plain = tt }, (record { fault = refl; plain = tt }, (record { fault = refl; plain = tt }, tt))), λ deblocking after. tt),
    ))

pub header_cuts : (nal_ref_idc nal_unit_type : ℕ) (sps : Sps) (pps : Pps) → AllCutsAre Cut (header_syntax nal_ref_idc nal_unit_type sps pps)
unfolding header_syntax
header_cuts nal_ref_idc nal_unit_type sps pps =
    followed_by_cuts Cut (picture_syntax _ _ _) _ (picture_cuts _ _ _) (λ picture.
    followed_by_cuts Cut (reference_syntax _ _ _) _ (reference_cuts _ _ _) (λ references.
    followed_by_cuts Cut (ending_syntax _ _ _ _) _ (ending_cuts _ _ _ _) (λ ending. tt)))

same_value : {A : Type 0} (more : List Bool) (r : Result (A × Place) HeaderFault) → read_value (after_extended more r) ≡ read_value r
same_value more (Ok x) = refl
same_value more (Err e) = refl

-- what a front says that isn't cut is what the whole payload says
front_says : {A : Type 0} (syntax : Syntax A HeaderFault) → AllCutsAre Cut syntax → (n : ℕ) (payload : List ℕ) → 1 ≤ n → (syntax_at syntax (after_first (take n payload)) ≡ Err Cut → ⊥) → read_value (syntax_at syntax (after_first payload)) ≡ read_value (syntax_at syntax (after_first (take n payload)))
front_says syntax cuts n payload some uncut =
    elim (cases_lt n (length payload)) [
      | inl inside ↦
          let p = after_first (take n payload) in
          let more = bits_of (drop n payload) in
          ap (λ q. read_value (syntax_at syntax q)) (after_first-front n payload some (omega arith))
          ∙ (ap read_value (syntax_extended Cut more syntax cuts p uncut) ∙ same_value more (syntax_at syntax p))
      | inr all ↦ ap (λ bytes. read_value (syntax_at syntax (after_first bytes))) (sym (take_all n payload all))
    ]

no_cut : {A : Type 0} (r : Result (A × Place) HeaderFault) (answer : Result A HeaderFault) → (answer ≡ Err Cut → ⊥) → read_value r ≡ answer → r ≡ Err Cut → ⊥
no_cut r answer other is cut = other (sym is ∙ ap read_value cut)

-- so an answer from a front is the answer, where it isn't cut or the front is all
pub answers_whole : {A : Type 0} (syntax : Syntax A HeaderFault) → AllCutsAre Cut syntax → (n : ℕ) (payload : List ℕ) → 1 ≤ n → (answer : Result A HeaderFault) → Answers answer (read_value (syntax_at syntax (after_first (take n payload)))) → (answer ≡ Err Cut → length payload ≤ n) → Answers answer (read_value (syntax_at syntax (after_first payload)))
answers_whole syntax cuts n payload some (Ok x) is all = front_says syntax cuts n payload some (no_cut _ (Ok x) (λ same. cc) is) ∙ is
answers_whole syntax cuts n payload some (Err Memory) is all = tt
answers_whole syntax cuts n payload some (Err Value) is all = front_says syntax cuts n payload some (no_cut _ (Err Value) (λ same. cc) is) ∙ is
answers_whole syntax cuts n payload some (Err Cut) is all =
    ap (λ bytes. read_value (syntax_at syntax (after_first bytes))) (sym (take_all n payload (all refl))) ∙ is

-- the laws of the answer
module _ (unit : List ℕ) (sps : Sps) (pps : Pps) where
  pub header_found : (answer : Result SliceHeader HeaderFault) → Answers answer (header_at unit sps pps) → IfOk answer (λ header. IsSliceHeader unit sps pps header)
  unfolding header_at
  header_found (Ok header) is =
      let read = with_place (syntax_at (syntax_of unit sps pps) (unit_bits unit)) header is in
      record { after = read.0; fields = syntax_found (syntax_of unit sps pps) (unit_bits unit) (header, read.0) read.1 }
  header_found (Err e) is = tt

  pub header_only : (answer : Result SliceHeader HeaderFault) → Answers answer (header_at unit sps pps) → (header : SliceHeader) → IsSliceHeader unit sps pps header → Answers answer (Ok header)
  unfolding header_at
  header_only answer is header has =
      subst (Answers answer) (ap read_value (syntax_only (syntax_of unit sps pps) (unit_bits unit) header has.after has.fields)) is

  pub header_fault : (answer : Result SliceHeader HeaderFault) → Answers answer (header_at unit sps pps) → IfErr answer (λ fault. (fault ≡ Memory) ⊎ HeaderHasFault unit sps pps fault)
  unfolding header_at
  header_fault (Ok header) is = tt
  header_fault (Err Memory) is = inl refl
  header_fault (Err Cut) is = inr (syntax_fault (syntax_of unit sps pps) (unit_bits unit) Cut (fault_is _ Cut is))
  header_fault (Err Value) is = inr (syntax_fault (syntax_of unit sps pps) (unit_bits unit) Value (fault_is _ Value is))

  pub header_refused : (answer : Result SliceHeader HeaderFault) → Answers answer (header_at unit sps pps) → (fault : HeaderFault) → HeaderHasFault unit sps pps fault → Answers answer (Err fault)
  unfolding header_at
  header_refused answer is fault has =
      subst (Answers answer) (ap read_value (fault_syntax (syntax_of unit sps pps) (unit_bits unit) fault has)) is

  -- the header that the unit has is what reading gives
  pub header_has : (header : SliceHeader) → IsSliceHeader unit sps pps header → header_at unit sps pps ≡ Ok header
  unfolding header_at
  header_has header has =
      ap read_value (syntax_only (syntax_of unit sps pps) (unit_bits unit) header has.after has.fields)

  -- the fault that it shows first is what reading ends with
  pub header_shows : (fault : HeaderFault) → HeaderHasFault unit sps pps fault → header_at unit sps pps ≡ Err fault
  unfolding header_at
  header_shows fault has = ap read_value (fault_syntax (syntax_of unit sps pps) (unit_bits unit) fault has)

  -- and the fault that reading ends with is shown
  pub header_shown : (fault : HeaderFault) → header_at unit sps pps ≡ Err fault → HeaderHasFault unit sps pps fault
  unfolding header_at
  header_shown fault is = syntax_fault (syntax_of unit sps pps) (unit_bits unit) fault (fault_is _ fault is)
