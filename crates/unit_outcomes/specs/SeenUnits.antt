-- What of a stream's units decides about breaks and doubt.
use Rattle.std.specs.Prelude.{◌≡◌, ℕ, ◌==◌, ◌||◌, Bool, true, false, List, [], ◌∷◌, Option, None, Some, slice_get}
use Rattle.std.specs.Option.{option_map}
use Rattle.h264_controls.specs.declared.request.Request.{Request}
use Rattle.unit_outcomes.specs.Numbers.{number_of}
use Rattle.unit_outcomes.specs.declared.validity_fault.ValidityFault.TheVariants.{FrameNumGap}
use Rattle.unit_outcomes.specs.declared.outcome.Outcome.{Outcome}
use Rattle.unit_outcomes.specs.declared.outcome.Outcome.TheVariants.{Plan, Fault, Empty}

-- a unit's id, whether nal_ref_idc of its first slice isn't 0 (7.4.1), and its outcome
pub record SeenUnit : Type 0 where
  pub id : ℕ
  pub is_reference : Bool
  pub outcome : Outcome

-- a damage that others may follow: a fault of a reference picture, or missing pictures
abbrev pub is_break : Bool → Outcome → Bool
is_break is_reference (Plan plan) = false
is_break is_reference (Fault fault) = is_reference || number_of fault == number_of FrameNumGap
is_break is_reference Empty = false

-- the first slice of a picture, and so each, is one of an IDR picture
abbrev pub are_of_idr : List Request → Bool
are_of_idr [] = false
are_of_idr (request ∷ requests) = request.body.controls.decode_params.flags.idr_pic

-- a valid IDR picture
abbrev pub is_idr_picture : Outcome → Bool
is_idr_picture (Plan plan) = are_of_idr plan.requests
is_idr_picture (Fault fault) = false
is_idr_picture Empty = false

-- whether there is an outcome and it is that of a valid IDR picture
abbrev pub tells_idr : Option Outcome → Bool
tells_idr None = false
tells_idr (Some outcome) = is_idr_picture outcome

-- whether there is a unit and it is a break
abbrev pub seen_break : Option SeenUnit → Bool
seen_break None = false
seen_break (Some unit) = is_break unit.is_reference unit.outcome

-- whether there is a unit and it is a valid IDR picture
abbrev pub seen_idr : Option SeenUnit → Bool
seen_idr None = false
seen_idr (Some unit) = is_idr_picture unit.outcome

-- a break stands at a place
abbrev pub BreaksAt : List SeenUnit → ℕ → Type 0
BreaksAt units at = seen_break (slice_get units at) ≡ true

-- a valid IDR picture stands at a place
abbrev pub IsIdrAt : List SeenUnit → ℕ → Type 0
IsIdrAt units at = seen_idr (slice_get units at) ≡ true

-- the unit at a place has the id
abbrev pub HasId : List SeenUnit → ℕ → ℕ → Type 0
HasId units at id = option_map (λ unit. unit.id) (slice_get units at) ≡ Some id

-- the units of three columns: ids, whether the first slice is of a reference picture, outcomes
abbrev pub seen_units : List ℕ → List Bool → List Outcome → List SeenUnit
seen_units [] references outcomes = []
seen_units (id ∷ ids) [] outcomes = []
seen_units (id ∷ ids) (reference ∷ references) [] = []
seen_units (id ∷ ids) (reference ∷ references) (outcome ∷ outcomes) =
    record { id = id; is_reference = reference; outcome = outcome } ∷ seen_units ids references outcomes
