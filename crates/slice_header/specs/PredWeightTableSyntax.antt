-- pred_weight_table() (ITU-T H.264, 7.3.3.2, 7.4.3.2).
use Rattle.std.specs.Prelude.{ℕ, ◌^◌, Bool, true, false, List, [], ◌∷◌, Option, Some, None, ℤ, pos, negsuc, nat_abs}
use Rattle.slice_header.specs.declared.fault.HeaderFault.{HeaderFault}
use Rattle.h264_types.specs.declared.slice_headers.pred_weight_table.PredWeight.{PredWeight}
use Rattle.h264_types.specs.declared.slice_headers.pred_weight_table.PredWeightTable.{PredWeightTable}
use Rattle.slice_header.specs.declared.weight_syntax.Denominators.{Denominators}
use Rattle.slice_header.specs.declared.weight_syntax.LumaWeight.{LumaWeight}
use Rattle.slice_header.specs.declared.weight_syntax.ChromaWeight.{ChromaWeight}
use Rattle.expgolomb.specs.Grammar.{Row}
use Rattle.expgolomb.specs.Rows.{always, flag_of}
use Rattle.slice_header.specs.HeaderRows.{u, ue, se}
use Rattle.expgolomb.specs.Structures.{Table, Syntax, Says, Structure, followed_by, counted}

-- the denominators
pub data DenominatorField : Type 0 where
  LumaLog2WeightDenom : DenominatorField
  ChromaLog2WeightDenom : DenominatorField

-- what a field's value says
abbrev pub take_denominator : DenominatorField → ℤ → Denominators → Denominators
take_denominator LumaLog2WeightDenom v s = record s { luma_log2_weight_denom = nat_abs v }
take_denominator ChromaLog2WeightDenom v s = record s { chroma_log2_weight_denom = nat_abs v }

-- luma's, and chroma's where there is chroma
unfoldable pub denominator_table : Bool → Table DenominatorField Denominators HeaderFault
denominator_table has_chroma = record {
  take = take_denominator;
  rows =
      ue LumaLog2WeightDenom always 7
      ∷ ue ChromaLog2WeightDenom (λ s. has_chroma) 7
      ∷ [];
  absent = record { luma_log2_weight_denom = 0; chroma_log2_weight_denom = 0 };
}

-- the luma weight of one entry, whose absent weight is 2 to the power of its denominator
pub data LumaField : Type 0 where
  LumaWeightFlag : LumaField
  LumaWeightValue : LumaField
  LumaOffset : LumaField

-- what a field's value says
abbrev pub take_luma : LumaField → ℤ → LumaWeight → LumaWeight
take_luma LumaWeightFlag v s = record s { luma_weight_flag = flag_of v }
take_luma LumaWeightValue v s = record s { luma_weight = v }
take_luma LumaOffset v s = record s { luma_offset = v }

-- a flag, and where it is 1 weight and offset
unfoldable pub luma_table : ℕ → Table LumaField LumaWeight HeaderFault
luma_table log2_denom = record {
  take = take_luma;
  rows =
      u LumaWeightFlag 1 always
      ∷ se LumaWeightValue (λ s. s.luma_weight_flag) (negsuc 127) (pos 127)
      ∷ se LumaOffset (λ s. s.luma_weight_flag) (negsuc 127) (pos 127)
      ∷ [];
  absent = record { luma_weight_flag = false; luma_weight = pos (2 ^ log2_denom); luma_offset = pos 0 };
}

-- the chroma weights of one entry
pub data ChromaField : Type 0 where
  ChromaWeightFlag : ChromaField
  CbWeight : ChromaField
  CbOffset : ChromaField
  CrWeight : ChromaField
  CrOffset : ChromaField

-- what a field's value says
abbrev pub take_chroma : ChromaField → ℤ → ChromaWeight → ChromaWeight
take_chroma ChromaWeightFlag v s = record s { chroma_weight_flag = flag_of v }
take_chroma CbWeight v s = record s { cb_weight = v }
take_chroma CbOffset v s = record s { cb_offset = v }
take_chroma CrWeight v s = record s { cr_weight = v }
take_chroma CrOffset v s = record s { cr_offset = v }

-- what is sent where the flag is 1
unfoldable pub chroma_rows : List (Row ChromaField ChromaWeight HeaderFault)
chroma_rows =
    se CbWeight (λ s. s.chroma_weight_flag) (negsuc 127) (pos 127)
    ∷ se CbOffset (λ s. s.chroma_weight_flag) (negsuc 127) (pos 127)
    ∷ se CrWeight (λ s. s.chroma_weight_flag) (negsuc 127) (pos 127)
    ∷ se CrOffset (λ s. s.chroma_weight_flag) (negsuc 127) (pos 127)
    ∷ []

-- the weights that are inferred, with a flag
abbrev pub inferred_chroma : Bool → ℕ → ChromaWeight
inferred_chroma flag log2_denom = record {
  chroma_weight_flag = flag;
  cb_weight = pos (2 ^ log2_denom);
  cb_offset = pos 0;
  cr_weight = pos (2 ^ log2_denom);
  cr_offset = pos 0;
}

-- a flag where there is chroma, and where it is 1 weights and offsets of Cb and Cr
unfoldable pub chroma_table : Bool → ℕ → Table ChromaField ChromaWeight HeaderFault
chroma_table has_chroma log2_denom = record {
  take = take_chroma;
  rows = u ChromaWeightFlag 1 (λ s. has_chroma) ∷ chroma_rows;
  absent = inferred_chroma false log2_denom;
}

-- both together
abbrev pub pred_weight : LumaWeight → ChromaWeight → PredWeight
pred_weight luma chroma = record {
  luma_weight = luma.luma_weight;
  luma_offset = luma.luma_offset;
  cb_weight = chroma.cb_weight;
  cb_offset = chroma.cb_offset;
  cr_weight = chroma.cr_weight;
  cr_offset = chroma.cr_offset;
}

-- the weights of one entry
unfoldable pub entry_syntax : Bool → Denominators → Syntax PredWeight HeaderFault
entry_syntax has_chroma denominators =
    Structure (luma_table denominators.luma_log2_weight_denom) (λ luma.
    Structure (chroma_table has_chroma denominators.chroma_log2_weight_denom) (λ chroma.
    Says (pred_weight luma chroma)))

-- the weights of so many entries
unfoldable pub entries_syntax : Bool → Denominators → ℕ → Syntax (List PredWeight) HeaderFault
entries_syntax has_chroma denominators count = counted (entry_syntax has_chroma denominators) count []

-- the table of lists with so many active entries
unfoldable pub weight_syntax : Bool → ℕ → ℕ → Syntax PredWeightTable HeaderFault
weight_syntax has_chroma active_l0 active_l1 =
    Structure (denominator_table has_chroma) (λ denominators.
    followed_by (entries_syntax has_chroma denominators active_l0) (λ weights_l0.
    followed_by (entries_syntax has_chroma denominators active_l1) (λ weights_l1.
    Says record {
      luma_log2_weight_denom = denominators.luma_log2_weight_denom;
      chroma_log2_weight_denom = denominators.chroma_log2_weight_denom;
      weights_l0 = weights_l0;
      weights_l1 = weights_l1;
    })))

-- where the slice has one
abbrev pub weights_if : Bool → Syntax PredWeightTable HeaderFault → Syntax (Option PredWeightTable) HeaderFault
weights_if false table = Says None
weights_if true table = followed_by table (λ weights. Says (Some weights))
