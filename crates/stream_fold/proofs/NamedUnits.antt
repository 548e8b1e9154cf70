-- The entries of a slice's lists name units whose keys are known (ITU-T H.264, 8.2.4).
use Rattle.std.proofs.Common.{◌≡◌, ℕ, zero, suc, ◌+◌, ◌<◌, Bool, true, false, List, [], ◌∷◌, ◌++◌, length, map, All, Option, None, Some, IsSome, Result, Ok, Err, IfOk, arith, refl, ap, ◌∙◌, subst, sym, ⊎_elim, if◌then◌else◌}
use Rattle.std.specs.Prelude.{slice_get}
use Rattle.std.proofs.lemmas.Bool.{cases_Bool}
use Rattle.std.proofs.lemmas.List.Elements.{All-nil, All-head, All-tail, All-append, All-weaker}
use Rattle.h264_types.specs.declared.param_sets.sps.Sps.{Sps}
use Rattle.h264_types.specs.declared.slice_headers.slice_types.SliceType.{SliceType}
use Rattle.h264_types.specs.declared.slice_headers.slice_types.SliceType.TheVariants.{P, B, I, Sp, Si}
use Rattle.h264_types.specs.declared.slice_headers.slice_headers.SliceHeader.{SliceHeader}
use Rattle.h264_types.specs.Pictures.{is_idr}
use Rattle.h264_types.specs.declared.pictures.counts.Counts.{Counts}
use Rattle.h264_types.specs.declared.pictures.frames.Frame.{Frame}
use Rattle.h264_types.specs.MarkedFrames.{Marked}
use Rattle.h264_controls.specs.References.{references}
use Rattle.slice_decoding.specs.InitialLists.{Entries}
use Rattle.slice_decoding.specs.ReferenceLists.{has_list_0, has_list_1, active_l0, active_l1, IsMarked, lists_of}
use Rattle.slice_decoding.proofs.ListLaws.{length-lists_of, marked-lists_of}
use Rattle.slice_reading.specs.Slices.{SliceRead}
use Rattle.request_core.specs.Requests.{ListedSlice}
use Rattle.request_core.specs.Fold.{with_lists, listed}
use Rattle.slice_decoding.specs.declared.ref_lists.fault.ListFault.{ListFault}
use Rattle.picture_keys.specs.Known.{Known, key_at}
use Rattle.picture_keys.specs.Decodable.{NamesKnown}
use Rattle.stream_fold.proofs.KnownUnits.{IsKnown, AreKnown}
use Rattle.stream_fold.proofs.ReadSlices.{IsIntraInIdr}

-- the place of a frame whose unit is known names that unit
place_known : (known : Known) (frames : List Frame) (place : ℕ) → place < length frames → AreKnown known frames
    → (unit : ℕ) × (slice_get (map (λ frame. frame.id) frames) place ≡ Some unit) × IsSome (key_at known unit)
place_known known [] place below all = absurd (omega arith)
place_known known (frame ∷ frames) zero below all = (frame.id, refl, All-head (λ (frame : Frame). IsKnown known frame.id) frame frames all)
place_known known (frame ∷ frames) (suc place) below all =
    place_known known frames place (omega arith) (All-tail (λ (frame : Frame). IsKnown known frame.id) frame frames all)

-- so does an entry that is missing or the place of a frame
entry_known : (known : Known) (marks : Marked) → AreKnown known marks.frames → (entry : Option ℕ) → IsMarked marks entry
    → NamesKnown known (map (λ frame. frame.id) marks.frames) entry
entry_known known marks all None here = tt
entry_known known marks all (Some place) here = place_known known marks.frames place here all

-- what holds of the answer holds of what is answered
if_ok : {A E : Type 0} (Holds : A → Type 0) (answer : Result A E) (x : A) → answer ≡ Ok x → IfOk answer Holds → Holds x
if_ok Holds answer x is holds = subst (λ answer. IfOk answer Holds) is holds

no_list_1 : (type : SliceType) → has_list_0 type ≡ false → has_list_1 type ≡ false
no_list_1 P none = absurd cc
no_list_1 B none = absurd cc
no_list_1 I none = refl
no_list_1 Sp none = refl
no_list_1 Si none = refl

no_entries : {A : Type 0} (list : List A) → length list ≡ 0 → list ≡ []
no_entries [] is = refl
no_entries (x ∷ list) is = absurd (omega arith)

-- the entries of both lists of a slice name units whose keys are known
abbrev AreNamed : Known → Marked → SliceHeader → Entries × Entries → Type 0
AreNamed known marks header lists = All (NamesKnown known (references marks.frames header)) (lists.0 ++ lists.1)

-- a slice with its lists names such units alone
abbrev pub NamesKnownOnly : Known → Marked → ListedSlice → Type 0
NamesKnownOnly known marks listed = AreNamed known marks listed.slice.header (listed.list_0, listed.list_1)

module _ (known : Known) (marks : Marked) (counts : Counts) (all : AreKnown known marks.frames) where
  module _ (sps : Sps) (header : SliceHeader) (lists : Entries × Entries) (are : lists_of marks sps header counts ≡ Ok lists) where
    without_lists : has_list_0 header.slice_type ≡ false → lists.0 ++ lists.1 ≡ []
    without_lists none =
        let lengths = if_ok (λ (lists : Entries × Entries). (length lists.0 ≡ active_l0 header) × (length lists.1 ≡ active_l1 header))
        (lists_of marks sps header counts) lists are (length-lists_of marks sps header counts) in
        let first = no_entries lists.0 (lengths.0 ∙ ap (λ has. if has then header.num_ref_idx_l0_active_minus1 + 1 else 0) none) in
        let second = no_entries lists.1
        (lengths.1 ∙ ap (λ has. if has then header.num_ref_idx_l1_active_minus1 + 1 else 0) (no_list_1 header.slice_type none)) in
        ap (λ list. list ++ lists.1) first ∙ second

    -- in an IDR picture there are none
    named_in_idr : has_list_0 header.slice_type ≡ false → AreNamed known marks header lists
    named_in_idr none =
        subst (All (NamesKnown known (references marks.frames header))) (sym (without_lists none))
        (All-nil (NamesKnown known (references marks.frames header)))

    -- in others they name marked frames
    named_in_others : is_idr header ≡ false → AreNamed known marks header lists
    named_in_others other =
        let units = map (λ (frame : Frame). frame.id) marks.frames in
        let marked = if_ok (λ (lists : Entries × Entries). All (IsMarked marks) lists.0 × All (IsMarked marks) lists.1)
        (lists_of marks sps header counts) lists are (marked-lists_of marks sps header counts) in
        let named = All-append (NamesKnown known units) lists.0 lists.1
        (All-weaker (IsMarked marks) (NamesKnown known units) (entry_known known marks all) lists.0 marked.0)
        (All-weaker (IsMarked marks) (NamesKnown known units) (entry_known known marks all) lists.1 marked.1) in
        subst (λ (idr : Bool). All (NamesKnown known (if idr then [] else units)) (lists.0 ++ lists.1)) (sym other) named

    lists_named : (is_idr header ≡ true → has_list_0 header.slice_type ≡ false) → AreNamed known marks header lists
    lists_named intra =
        ⊎_elim (λ idr. named_in_idr (intra idr)) (λ other. named_in_others other) (cases_Bool (is_idr header))

  by_lists : (slice : SliceRead) (answer : Result (Entries × Entries) ListFault) (listed : ListedSlice) → lists_of marks slice.sps slice.header counts ≡ answer
      → with_lists slice answer ≡ Ok listed → IsIntraInIdr slice → NamesKnownOnly known marks listed
  by_lists slice (Ok lists) listed are is intra =
      let same : record { slice = slice; list_0 = lists.0; list_1 = lists.1 } ≡ listed = cc in
      subst (NamesKnownOnly known marks) same (lists_named slice.sps slice.header lists are intra)
  by_lists slice (Err fault) listed are is intra = absurd cc

  pub listed_named : (slice : SliceRead) (with : ListedSlice) → IsIntraInIdr slice → listed marks counts slice ≡ Ok with → NamesKnownOnly known marks with
  listed_named slice with intra is = by_lists slice (lists_of marks slice.sps slice.header counts) with refl is intra
