-- What the active entries of a picture's reference lists name (8.2.4).
use Rattle.std.specs.Prelude.{◌≡◌, ◌⊎◌, ℕ, List, [], Contains, Option, None, Some, slice_get}
use Rattle.h264_controls.specs.declared.request.Request.{Request}
use Rattle.unit_outcomes.specs.declared.outcome.Outcome.TheVariants as outcomes
use Rattle.unit_outcomes.specs.declared.outcome.Plan.{Plan}
use Rattle.unit_outcomes.specs.SeenUnits.{SeenUnit}

-- the unit that an entry names; nothing where it is missing
abbrev pub named_unit : List ℕ → Option ℕ → Option ℕ
named_unit units None = None
named_unit units (Some index) = slice_get units index

-- an entry of list 0 or list 1 of a slice names this unit, or nothing
pub record HasEntry (request : Request) (named : Option ℕ) : Type 0 where
  pub entry : Option ℕ
  pub listed : Contains request.body.controls.slice_params.ref_pic_list0 entry
      ⊎ Contains request.body.controls.slice_params.ref_pic_list1 entry
  pub names : named_unit request.references entry ≡ named

-- an entry of one of the lists of the valid unit at a place names this unit, or nothing
pub record Lists (units : List SeenUnit) (at : ℕ) (named : Option ℕ) : Type 0 where
  pub unit : SeenUnit
  pub there : slice_get units at ≡ Some unit
  pub plan : Plan
  pub valid : unit.outcome ≡ outcomes.Plan plan
  pub request : Request
  pub among : Contains plan.requests request
  pub entry : HasEntry request named

-- the unit at a place is valid, and this is its plan
abbrev pub IsPlan : List SeenUnit → ℕ → Plan → Type 0
IsPlan units at plan = (unit : SeenUnit) × (slice_get units at ≡ Some unit) × (unit.outcome ≡ outcomes.Plan plan)

-- the lists of a slice have no entries
abbrev pub HasNoEntries : Request → Type 0
HasNoEntries request =
    (request.body.controls.slice_params.ref_pic_list0 ≡ [])
    × (request.body.controls.slice_params.ref_pic_list1 ≡ [])
