-- The sentences of refusals, of faults and of what is wrong with parameter sets.
use Rattle.std.specs.Prelude.{ℕ, List, codes}
use Rattle.access_unit.specs.declared.refused.Refused.{Refused}
use Rattle.access_unit.specs.declared.refused.Refused.TheVariants as refused
use Rattle.param_sets.specs.declared.fault.SetFault.{SetFault}
use Rattle.param_sets.specs.declared.fault.SetFault.TheVariants as set
use Rattle.param_sets.specs.declared.fault.SetField.{SetField}
use Rattle.param_sets.specs.declared.fault.SetField.TheVariants as field
use Rattle.unit_outcomes.specs.declared.validity_fault.ValidityFault.{ValidityFault}
use Rattle.unit_outcomes.specs.declared.validity_fault.ValidityFault.TheVariants as fault

-- why an access unit is refused
abbrev pub refused_sentence : Refused → List ℕ
refused_sentence refused.Split = codes "the file has no NAL unit, or one that is empty or has bytes that none may have (B.1, 7.4.1)"
refused_sentence refused.UnitType = codes "a NAL unit is of a type that isn't read: data partitions, a subset SPS, a prefix, or slices of other views or layers (table 7-1)"
refused_sentence refused.ForbiddenBit = codes "forbidden_zero_bit of a NAL unit is 1: it is damaged (7.4.1)"
refused_sentence refused.Sps = codes "a sequence parameter set can't be read (7.3.2.1.1)"
refused_sentence refused.Pps = codes "a picture parameter set can't be read (7.3.2.2)"
refused_sentence refused.Switching = codes "a slice is of type SP or SI, which the Extended profile alone has (7.4.3)"
refused_sentence refused.MixedIdr = codes "slices of an IDR picture and of another one stand in one access unit (7.4.1.2.4)"
refused_sentence refused.IdrNotIntra = codes "an IDR picture has a P or B slice (7.4.3)"
refused_sentence refused.IdrNotReference = codes "an IDR picture has nal_ref_idc 0 (7.4.1)"
refused_sentence refused.MixedReference = codes "nal_ref_idc is 0 in a slice of an access unit and not in another (7.4.1)"
refused_sentence refused.UnitOrder = codes "a NAL unit stands behind a slice that belongs before it (7.4.1.2.3)"
refused_sentence refused.TwoPictures = codes "a second picture begins in one access unit (7.4.1.2.3)"
refused_sentence refused.TooLarge = codes "an access unit has more than 4,194,304 bytes or 256 slices"
refused_sentence refused.Memory = codes "out of memory"

-- why a parameter set isn't read, but for the field that is out of its range
abbrev pub set_sentence : SetFault → List ℕ
set_sentence set.Cut = codes "the parameter set ends within a field (7.3.2)"
set_sentence (set.Range _) = codes "a field is out of its range"
set_sentence set.Profile = codes "profile_idc is none of 66, 77, 100, 110 and 122: the profile isn't supported (A.2)"
set_sentence set.Chroma444 = codes "chroma_format_idc is 3: 4:4:4 isn't supported (7.4.2.1.1)"
set_sentence set.Interlaced = codes "frame_mbs_only_flag is 0: interlaced coding isn't supported (7.4.2.1.1)"
set_sentence set.SliceGroups = codes "num_slice_groups_minus1 isn't 0: slice groups aren't supported (7.4.2.2)"
set_sentence set.RefFrames = codes "max_num_ref_frames is above 16 (7.4.2.1.1)"
set_sentence set.Memory = codes "out of memory"

-- the standard's name of a field
abbrev pub field_text : SetField → List ℕ
field_text field.SpsId = codes "seq_parameter_set_id"
field_text field.ChromaFormat = codes "chroma_format_idc"
field_text field.BitDepth = codes "bit_depth_luma_minus8 or bit_depth_chroma_minus8"
field_text field.FrameNumBits = codes "log2_max_frame_num_minus4"
field_text field.CountType = codes "pic_order_cnt_type"
field_text field.CountBits = codes "log2_max_pic_order_cnt_lsb_minus4"
field_text field.CycleLength = codes "num_ref_frames_in_pic_order_cnt_cycle"
field_text field.Offset = codes "an offset of pic_order_cnt_type 1"
field_text field.Width = codes "pic_width_in_mbs_minus1"
field_text field.Height = codes "pic_height_in_map_units_minus1"
field_text field.PpsId = codes "pic_parameter_set_id"
field_text field.ActiveCount = codes "num_ref_idx_l0_default_active_minus1 or num_ref_idx_l1_default_active_minus1"
field_text field.BipredIdc = codes "weighted_bipred_idc"
field_text field.InitQp = codes "pic_init_qp_minus26"
field_text field.InitQs = codes "pic_init_qs_minus26"
field_text field.ChromaOffset = codes "chroma_qp_index_offset or second_chroma_qp_index_offset"
field_text field.Delta = codes "delta_scale"

-- why a unit isn't valid
abbrev pub fault_sentence : ValidityFault → List ℕ
fault_sentence fault.MissingPps = codes "a slice names a picture parameter set that wasn't sent (7.4.1.2.1)"
fault_sentence fault.MissingSps = codes "a picture parameter set names a sequence parameter set that wasn't sent (7.4.1.2.1)"
fault_sentence fault.HeaderCut = codes "the NAL unit ends within the slice header (7.3.3)"
fault_sentence fault.HeaderValue = codes "a field of the slice header is out of its range (7.4.3)"
fault_sentence fault.Redundant = codes "redundant_pic_cnt isn't 0: redundant slices aren't decoded (7.4.3)"
fault_sentence fault.SliceOrder = codes "the first slice doesn't begin at macroblock 0, or a later one not behind the one before it: slices are missing, or not in order (7.4.3)"
fault_sentence fault.SliceMismatch = codes "the slices differ in what those of one picture share (7.4.3)"
fault_sentence fault.NoIdr = codes "no IDR picture stands before it, so it can't be decoded (7.4.1.2.1)"
fault_sentence fault.SpsChange = codes "it refers to another sequence parameter set than the last IDR picture (7.4.1.2.1)"
fault_sentence fault.IdrFrameNum = codes "frame_num of an IDR picture isn't 0 (7.4.3)"
fault_sentence fault.FrameNumGap = codes "frame_num is neither that of the last reference picture nor the next one: pictures are missing (7.4.3)"
fault_sentence fault.FrameNumRepeat = codes "frame_num is that of another reference picture: pictures are missing, or one stands twice (7.4.3)"
fault_sentence fault.OrderRange = codes "a picture order count is out of its range (8.2.1)"
fault_sentence fault.OrderTie = codes "two pictures have one picture order count, so a B slice has no order of them (8.2.1)"
fault_sentence fault.NoReference = codes "a P or B slice has no frame to refer to (8.2.4.2)"
fault_sentence fault.BadModification = codes "a command of a reference list names a frame that isn't there (8.2.4.3)"
fault_sentence fault.BadMarking = codes "the reference marking names a frame that isn't there, or can't be carried out (8.2.5)"
fault_sentence fault.TooManyReferences = codes "more frames are marked than max_num_ref_frames allows (8.2.5.3)"
