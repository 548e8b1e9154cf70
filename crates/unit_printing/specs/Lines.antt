-- The lines of a valid unit (docs/OUTPUT.md).
use Rattle.std.specs.Prelude.{ℕ, ◌+◌, ◌++◌, Bool, length, List, [], ◌∷◌, Option, Some, None, codes, decimal, if◌then◌else◌}
use Rattle.std.specs.Fmt.{signed_decimal}
use Rattle.std.specs.List.{join_by, zip}
use Rattle.std.specs.Int.{w32, cast_signed}
use Rattle.h264_controls.specs.declared.request.Request.{Request}
use Rattle.h264_types.specs.declared.slice_headers.slice_types.SliceType.{SliceType}
use Rattle.h264_controls.specs.declared.v4l2_ctrl_h264_decode_params.DpbEntryFlags.{DpbEntryFlags}
use Rattle.h264_controls.specs.declared.v4l2_ctrl_h264_decode_params.V4l2H264DpbEntry.{V4l2H264DpbEntry}
use Rattle.h264_controls.specs.References.{timestamp}
use Rattle.h264_controls.specs.DecodeParamsForm.{dpb_entry_flags}
use Rattle.h264_controls.specs.SliceParamsForm.{slice_type_number}
use Rattle.h264_types.specs.declared.pictures.counts.Counts.{Counts}
use Rattle.unit_outcomes.specs.declared.outcome.Plan.{Plan}

-- the line of the unit itself, up to its position
abbrev pub plan_head : ℕ → ℕ → List ℕ
plan_head id position = codes "unit " ++ (decimal id ++ (codes " position " ++ decimal position))

-- and from there on: the counts, and how many requests there are
abbrev pub counts_text : Counts → ℕ → List ℕ
counts_text counts requests = codes " counts " ++ (signed_decimal counts.top ++ (codes " " ++ (signed_decimal counts.bottom
    ++ (codes " requests " ++ (decimal requests ++ codes "\n")))))

-- the numbers of an entry, with the unit of its frame: timestamp, number and flags
abbrev pub numbers_text : ℕ → ℕ → DpbEntryFlags → List ℕ
numbers_text unit pic_num flags = decimal (timestamp unit) ++ (codes ":" ++ (signed_decimal (cast_signed w32 pic_num)
    ++ (codes ":" ++ decimal (dpb_entry_flags flags))))

-- an entry, with the unit of its frame
abbrev pub entry_text : ℕ × V4l2H264DpbEntry → List ℕ
entry_text (unit, entry) = numbers_text unit entry.pic_num entry.flags

-- an entry after another
abbrev pub next_text : ℕ × V4l2H264DpbEntry → List ℕ
next_text entry = codes "," ++ entry_text entry

-- a place, or x for a missing entry
abbrev pub place_text : Option ℕ → List ℕ
place_text (Some place) = decimal place
place_text None = codes "x"

-- the texts joined by commas, - where there's none
abbrev pub list_text : {A : Type 0} → (A → List ℕ) → List A → List ℕ
list_text text [] = codes "-"
list_text text (x ∷ xs) = join_by text (codes ",") (x ∷ xs)

-- of a request's line, the place of the slice, its timestamp, and what its header says
abbrev pub slice_text : ℕ → ℕ → ℕ → SliceType → ℕ → List ℕ
slice_text slice timestamp bits slice_type frame_num =
    codes "." ++ (decimal slice ++ (codes " ts " ++ (decimal timestamp ++ (codes " bits " ++ (decimal bits
    ++ (codes " type " ++ (decimal (slice_type_number slice_type) ++ (codes " frame " ++ decimal frame_num))))))))

-- its lists
abbrev pub lists_text : List (Option ℕ) → List (Option ℕ) → List ℕ
lists_text list_0 list_1 = codes " l0 " ++ (list_text place_text list_0 ++ (codes " l1 " ++ list_text place_text list_1))

-- and whether more slices follow
abbrev pub hold_text : Bool → List ℕ
hold_text hold = (codes " hold " ++ decimal (if hold then 1 else 0)) ++ codes "\n"

-- the line of a request, by the unit's id and the place of the slice
abbrev pub request_text : ℕ → ℕ → Request → List ℕ
request_text id slice request =
    codes "request " ++ (decimal id ++ (codes "." ++ (decimal slice
    ++ (codes " ts " ++ (decimal request.timestamp ++ (codes " bits " ++ (decimal request.body.controls.slice_params.header_bit_size
    ++ (codes " type " ++ (decimal (slice_type_number request.body.controls.slice_params.slice_type)
    ++ (codes " frame " ++ (decimal request.body.controls.decode_params.frame_num
    ++ (codes " dpb " ++ (list_text entry_text (zip request.references request.body.controls.decode_params.dpb)
    ++ (codes " l0 " ++ (list_text place_text request.body.controls.slice_params.ref_pic_list0
    ++ (codes " l1 " ++ (list_text place_text request.body.controls.slice_params.ref_pic_list1
    ++ (codes " hold " ++ (decimal (if request.hold then 1 else 0) ++ codes "\n")))))))))))))))))))

-- the lines of the requests of a unit's slices, from this place on
abbrev pub request_lines : ℕ → ℕ → List Request → List ℕ
request_lines id slice [] = []
request_lines id slice (request ∷ requests) = request_text id slice request ++ request_lines id (slice + 1) requests

-- the lines of a valid unit after its position
abbrev pub plan_tail : ℕ → Plan → List ℕ
plan_tail id plan = counts_text plan.counts (length plan.requests) ++ request_lines id 0 plan.requests
