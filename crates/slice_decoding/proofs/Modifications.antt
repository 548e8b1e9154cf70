-- A list on the way through its commands.
use Rattle.std.proofs.Common.{◌≡◌, ℕ, suc, ◌+◌, ◌*◌, ◌<◌, ◌≤◌, List, ◌∷◌, length, drop, get_or, count_by, Option, Some, None, is_none, ◌||◌, Result, Ok, Err, if◌then◌else◌, ℤ, pos, ◌+ℤ◌, ◌-ℤ◌, ◌≤ℤ◌, sym, ap, ◌∙◌, arith, add-one}
use Rattle.std.proofs.lemmas.Int.{ints}
use Rattle.std.proofs.lemmas.List.{drop_more}
use Rattle.h264_types.specs.declared.param_sets.sps.Sps.{Sps}
use Rattle.h264_types.specs.declared.slice_headers.ref_pic_list_modification.RefPicListModification.{RefPicListModification}
use Rattle.h264_types.specs.declared.pictures.frames.Frame.{Frame}
use Rattle.slice_decoding.specs.declared.ref_lists.fault.ListFault.{ListFault}
use Rattle.slice_decoding.specs.declared.ref_lists.fault.ListFault.TheVariants.{BadModification}
use Rattle.slice_decoding.specs.Modification.{no_wrap, is_entry_of, put, put_named, place_named, names_no_frame, modified_from}
use Rattle.slice_decoding.proofs.Puts.{length-put, count_by-put}

-- what is left to answer, where the first command is for an index and counts from the last number
abbrev pub outcome_from : Sps → ℕ → List Frame → (index : ℕ) → ℤ → List (Option ℕ) → List RefPicListModification → Result (List (Option ℕ)) ListFault
outcome_from sps frame_num frames index last entries commands =
    if names_no_frame sps frame_num frames last commands then Err BadModification
    else Ok (modified_from sps frame_num frames index last entries commands)

-- the commands from an index on still lead to the same, no frame stands twice from there on, and the number is small
pub record IsModifiedTo (sps : Sps) (frame_num : ℕ) (frames : List Frame) (commands : List RefPicListModification)
    (initial : List (Option ℕ)) (index : ℕ) (number : ℤ) (entries : List (Option ℕ)) : Type 0 where
  pub leads :
      outcome_from sps frame_num frames index number entries (drop index commands)
      ≡ outcome_from sps frame_num frames 0 (pos frame_num) initial commands
  pub long : length entries ≡ length initial
  pub once : (place : ℕ) → count_by (is_entry_of place) (drop index entries) ≤ 1
  pub low : pos 0 ≤ℤ (number +ℤ pos (8589934592 * index))
  pub high : number ≤ℤ pos (65536 + 8589934592 * index)

module _ (sps : Sps) (frame_num : ℕ) (frames : List Frame) (commands : List RefPicListModification) (initial : List (Option ℕ)) (index : ℕ)
    (number : ℤ) (entries : List (Option ℕ)) (state : IsModifiedTo sps frame_num frames commands initial index number entries)
    (command : RefPicListModification) (below : index < length commands) (read : command ≡ get_or commands index command) where
  abbrev next : ℤ
  next = no_wrap sps number command

  abbrev named_place : Option ℕ
  named_place = place_named sps frame_num frames next command

  abbrev later : List RefPicListModification
  later = drop (index + 1) commands

  -- the command in turn decides
  abbrev outcome_by : Option ℕ → Result (List (Option ℕ)) ListFault
  outcome_by place =
      if is_none place || names_no_frame sps frame_num frames next later then Err BadModification
      else Ok (modified_from sps frame_num frames (suc index) next (put_named index place entries) later)

  leads_by : outcome_by named_place ≡ outcome_from sps frame_num frames 0 (pos frame_num) initial commands
  leads_by =
      let ahead : drop index commands ≡ command ∷ later = drop_more commands index command below ∙ ap (λ c. c ∷ later) (sym read) in
      ap (outcome_from sps frame_num frames index number entries) (sym ahead) ∙ state.leads

  pub outcome_from-None : named_place ≡ None → outcome_from sps frame_num frames 0 (pos frame_num) initial commands ≡ Err BadModification
  outcome_from-None none = sym leads_by ∙ ap outcome_by none

  pub IsModifiedTo-more : (place : ℕ) → named_place ≡ Some place → index < length initial
      → (number -ℤ pos 8589934592) ≤ℤ next → next ≤ℤ (number +ℤ pos 8589934592)
      → IsModifiedTo sps frame_num frames commands initial (index + 1) next (put index place entries)
  IsModifiedTo-more place found inside low high =
      let here : index < length entries = rw state.long inside in
      record {
        leads = rw add-one (rw add-one at (ap outcome_by (sym found) ∙ leads_by));
        long = length-put index place entries here (state.once place) ∙ state.long;
        once = λ other. let fewer = count_by-put index place entries here (is_entry_of other) in omega (arith, state.once other, fewer);
        low = omega (arith, ints, state.low, low);
        high = omega (arith, ints, state.high, high);
      }
