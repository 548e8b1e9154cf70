-- The syntax of scaling lists (ITU-T H.264, 7.3.2.1.1.1), which sequence and picture parameter sets share.
use Rattle.std.specs.Prelude.{ℕ, zero, suc, ◌==◌, Bool, false, not, List, [], ◌∷◌, ◌++◌, replicate, Option, Some, None, ℤ, pos, negsuc, nat_lt, ◌+ℤ◌, unsigned_abs, if◌then◌else◌}
use Rattle.std.specs.Int.{int_rem_euclid}
use Rattle.std.specs.List.{fold}
use Rattle.param_sets.specs.declared.fault.SetFault.{SetFault}
use Rattle.param_sets.specs.declared.fault.SetFault.TheVariants.{Range}
use Rattle.param_sets.specs.declared.fault.SetField.TheVariants as ranges
use Rattle.expgolomb.specs.Grammar.{Row}
use Rattle.param_sets.specs.Rows.{u, se}
use Rattle.expgolomb.specs.Rows.{always, flag_of}
use Rattle.h264_types.specs.ScaleSteps.{Deltas, next_scale, list_size}

-- the fields of a list, in the standard's names
pub data ListField : Type 0 where
  ScalingListPresentFlag : ListField
  DeltaScale : ListField

-- a list that is present, with one more delta
abbrev pub with_delta : Deltas → ℤ → Deltas
with_delta None delta = None
with_delta (Some deltas) delta = Some (deltas ++ delta ∷ [])

-- the last list with one more delta
abbrev pub add_delta : List Deltas → ℤ → List Deltas
add_delta [] delta = []
add_delta (list ∷ []) delta = with_delta list delta ∷ []
add_delta (list ∷ more) delta = list ∷ add_delta more delta

-- a further list, by its present flag
abbrev pub add_list : List Deltas → Bool → List Deltas
add_list lists present = lists ++ (if present then Some [] else None) ∷ []

-- whether a list that is present goes on
abbrev pub goes_on : Deltas → Bool
goes_on None = false
goes_on (Some deltas) = not (next_scale deltas == 0)

-- whether list number j is being read and goes on
abbrev pub is_reading : ℕ → List Deltas → Bool
is_reading j [] = false
is_reading zero (list ∷ []) = goes_on list
is_reading zero (list ∷ more) = false
is_reading (suc j) (list ∷ more) = is_reading j more

-- what a field says of the lists
abbrev pub take_list : ListField → ℤ → List Deltas → List Deltas
take_list ScalingListPresentFlag v lists = add_list lists (flag_of v)
take_list DeltaScale v lists = add_delta lists v

abbrev pub ListRow : Type 0
ListRow = Row ListField (List Deltas) SetFault

abbrev pub present_row : ListRow
present_row = u ScalingListPresentFlag 1 always

-- a delta of list number j, where the list goes on
abbrev pub delta_row : ℕ → ListRow
delta_row j = se DeltaScale (is_reading j) (negsuc 127) (pos 127) (Range ranges.Delta)

-- this many lists from number j on
unfoldable pub list_rows : ℕ → ℕ → List ListRow
list_rows j zero = []
list_rows j (suc more) = present_row ∷ (replicate (list_size j) (delta_row j) ++ list_rows (suc j) more)
