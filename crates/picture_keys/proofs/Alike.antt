-- Whether a unit was there before, by the place of its id.
use Rattle.std.proofs.Common.{◌≡◌, ap, sym, ◌∙◌, ℕ, ◌<◌, ◌↔◌, Bool, length, get_or, Option, Some, arith}
use Rattle.std.specs.Prelude.{Contains, IsTrue, slice_get}
use Rattle.std.proofs.lemmas.Option.{same_Some, slice_get-get_or}
use Rattle.unit_outcomes.specs.declared.outcome.Outcome.{Outcome}
use Rattle.picture_keys.specs.declared.changed_units.columns.UnitColumns.{UnitColumns}
use Rattle.picture_keys.specs.Units.{AreAligned, AreDifferent, ComparedUnit, compared, units_in}
use Rattle.picture_keys.proofs.Lists.{contained, place_of, placed_once}
use Rattle.picture_keys.proofs.Rows.{compared_at, id_at}

module _ (columns : UnitColumns) (aligned : AreAligned columns) where
  -- the unit at a place, by what the columns have there
  pub unit_read : (at : ℕ) (outcome other : Outcome) (number another : Option ℕ) (unit : ComparedUnit ℕ) → at < length columns.ids.now
      → outcome ≡ get_or columns.outcomes.now at other → number ≡ get_or columns.numbers.now at another
      → slice_get (units_in columns) at ≡ Some unit → unit ≡ compared unit.id outcome number
  unit_read at outcome other number another unit within outcome_is number_is is =
      let ids = columns.ids.now in
      let there : slice_get (units_in columns) at ≡ Some (compared unit.id outcome number) =
      compared_at ids columns.outcomes.now columns.numbers.now at unit.id outcome number
      (id_at ids columns.outcomes.now columns.numbers.now at unit is)
      (slice_get-get_or columns.outcomes.now at other (omega (arith, within, aligned.0)) ∙ ap Some (sym outcome_is))
      (slice_get-get_or columns.numbers.now at another (omega (arith, within, aligned.1)) ∙ ap Some (sym number_is)) in
      same_Some unit (compared unit.id outcome number) (sym is ∙ there)

  -- the id of one
  pub id_read : (at : ℕ) (unit : ComparedUnit ℕ) → slice_get (units_in columns) at ≡ Some unit
      → slice_get columns.ids.now at ≡ Some unit.id
  id_read at unit is = id_at columns.ids.now columns.outcomes.now columns.numbers.now at unit is

  -- where a place is known to be the one of an id, the unit there is the only one of that id
  pub unit_of : (different : AreDifferent columns.ids.now) (at : ℕ) (here unit : ComparedUnit ℕ)
      → slice_get (units_in columns) at ≡ Some here → here.id ≡ unit.id → Contains (units_in columns) unit → here ≡ unit
  unit_of different at here unit is same contains =
      let found : (place : ℕ) × (slice_get (units_in columns) place ≡ Some unit) = place_of (units_in columns) unit contains in
      let place : at ≡ found.0 =
      placed_once columns.ids.now different unit.id at found.0 (id_read at here is ∙ ap Some same) (id_read found.0 unit found.1) in
      same_Some here unit (sym is ∙ (ap (slice_get (units_in columns)) place ∙ found.1))

-- two units of one id are the same where they are alike
pub same_alike : (r : Bool) (unit other : ComparedUnit ℕ) (outcome another : Outcome) (number more : Option ℕ)
    → unit ≡ compared unit.id outcome number → other ≡ compared other.id another more → unit.id ≡ other.id
    → ((id : ℕ) → IsTrue r ↔ (compared id outcome number ≡ compared id another more)) → IsTrue r ↔ (unit ≡ other)
same_alike r unit other outcome another number more first second same alike =
    let moved : other ≡ compared unit.id another more = second ∙ ap (λ id. compared id another more) (sym same) in (
      λ yes. first ∙ ((alike unit.id).0 yes ∙ sym moved),
      λ is. (alike unit.id).1 (sym first ∙ (is ∙ moved)),
    )

module _ (before after : UnitColumns) (before_aligned : AreAligned before) (after_aligned : AreAligned after)
    (different : AreDifferent before.ids.now) where
  -- a unit was there where that of its id is the same
  pub was_at : (r : Bool) (place : ℕ) (unit here : ComparedUnit ℕ) → slice_get (units_in before) place ≡ Some here
      → here.id ≡ unit.id → IsTrue r ↔ (here ≡ unit) → IsTrue r ↔ Contains (units_in before) unit
  was_at r place unit here is same alike = (
    λ yes. contained (units_in before) place unit (is ∙ ap Some (alike.0 yes)),
    λ contains. alike.1 (unit_of before before_aligned different place here unit is same contains),
  )
