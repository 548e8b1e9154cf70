-- struct v4l2_h264_dpb_entry (linux/v4l2-controls.h).
use Rattle.std.specs.Prelude.{ℕ, pos, List, Option, None, Some, map, replicate, slice_get}
use Rattle.std.specs.List.{range_with_len}
use Rattle.h264_controls.specs.declared.v4l2_ctrl_h264_decode_params.V4l2H264DpbEntry.{V4l2H264DpbEntry}
use Rattle.h264_controls.specs.DecodeParamsForm.{dpb_entry_flags, field_reference_number}
use Rattle.h264_controls.specs.References.{timestamp}
use Rattle.frame_requests.specs.declared.layouts.dpb_entry.DpbEntryLayout.{DpbEntryLayout}

-- an entry that holds a frame: each member is that of its name, as a number
abbrev pub dpb_entry_layout : ℕ → V4l2H264DpbEntry → DpbEntryLayout
dpb_entry_layout ts entry = record {
  reference_ts = ts;
  pic_num = entry.pic_num;
  frame_num = entry.frame_num;
  fields = field_reference_number entry.fields;
  reserved = replicate 5 0;
  top_field_order_cnt = entry.top_field_order_cnt;
  bottom_field_order_cnt = entry.bottom_field_order_cnt;
  flags = dpb_entry_flags entry.flags;
}

-- an entry that holds none
abbrev pub no_entry : DpbEntryLayout
no_entry = record {
  reference_ts = 0;
  pic_num = 0;
  frame_num = 0;
  fields = 0;
  reserved = replicate 5 0;
  top_field_order_cnt = pos 0;
  bottom_field_order_cnt = pos 0;
  flags = 0;
}

-- the timestamp of a unit, 0 where there's none
abbrev pub reference_ts_of : Option ℕ → ℕ
reference_ts_of (Some unit) = timestamp unit
reference_ts_of None = 0

-- that of the unit at a place
abbrev pub reference_ts_at : List ℕ → ℕ → ℕ
reference_ts_at units place = reference_ts_of (slice_get units place)

abbrev pub entry_or_none : ℕ → Option V4l2H264DpbEntry → DpbEntryLayout
entry_or_none ts (Some entry) = dpb_entry_layout ts entry
entry_or_none ts None = no_entry

-- the entry at a place, with the timestamp of the unit there
abbrev pub dpb_entry_at : List V4l2H264DpbEntry → List ℕ → ℕ → DpbEntryLayout
dpb_entry_at entries units place = entry_or_none (reference_ts_at units place) (slice_get entries place)

-- sixteen entries, of which those that hold no frame are zeros
abbrev pub dpb_layout : List V4l2H264DpbEntry → List ℕ → List DpbEntryLayout
dpb_layout entries units = map (dpb_entry_at entries units) (range_with_len 0 16)
