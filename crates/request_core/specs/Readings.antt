-- A unit as it is read over a state.
use Rattle.std.specs.Prelude.{ℕ, List, filter, map, Result}
use Rattle.annexb.specs.NalUnit.{is_slice}
use Rattle.h264_types.specs.Chains.{◌>>=◌}
use Rattle.unit_outcomes.specs.declared.outcome.Outcome.{Outcome}
use Rattle.unit_outcomes.specs.declared.validity_fault.ValidityFault.{ValidityFault}
use Rattle.slice_reading.specs.Numbers.{gathered}
use Rattle.slice_reading.specs.Slices.{SliceRead, slice_at}
use Rattle.request_core.specs.States.{FoldState}
use Rattle.request_core.specs.Fold.{picture_of, with_sets}

-- the state in which the unit's sets are put, and the unit's slices, or the least fault that one of
-- their headers shows
pub record ReadUnit : Type 0 where
  pub state : FoldState
  pub slices : Result (List SliceRead) ValidityFault

-- a unit read over a state
abbrev pub read_of : FoldState → List (List ℕ) → ReadUnit
read_of state unit = record {
  state = with_sets state unit;
  slices = gathered (map (slice_at (with_sets state unit).tables) (filter is_slice unit));
}

-- what a unit that was read leads to: the state after its picture and the picture's plan, or its
-- fault
abbrev pub leads_to : ReadUnit → ℕ → Result (FoldState × Outcome) ValidityFault
leads_to read id = read.slices >>= picture_of read.state id
