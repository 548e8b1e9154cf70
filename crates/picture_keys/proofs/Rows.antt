-- The units of columns.
use Rattle.std.proofs.Common.{◌≡◌, refl, ap, sym, ◌∙◌, ℕ, zero, suc, List, [], ◌∷◌, ◌++◌, length, Option, None, Some, arith}
use Rattle.std.specs.Prelude.{slice_get}
use Rattle.std.proofs.lemmas.Option.{same_Some}
use Rattle.unit_outcomes.specs.declared.outcome.Outcome.{Outcome}
use Rattle.picture_keys.specs.Units.{ComparedUnit, compared, compared_units}

nothing_at : {X : Type 0} (at : ℕ) (x : X) → slice_get [] at ≡ Some x → ⊥
nothing_at at x is = cc

module _ {K : Type 0} where
  compared_id : (id : ℕ) (outcome : Outcome) (key : Option K) → (compared id outcome key).id ≡ id
  compared_id id outcome None = refl
  compared_id id outcome (Some key) = refl

  -- as many as there are ids
  pub length-compared : (ids : List ℕ) (outcomes : List Outcome) (keys : List (Option K)) → length outcomes ≡ length ids
      → length keys ≡ length ids → length (compared_units ids outcomes keys) ≡ length ids
  length-compared [] outcomes keys same also = refl
  length-compared (id ∷ ids) [] keys same also = absurd (omega (arith, same))
  length-compared (id ∷ ids) (outcome ∷ outcomes) [] same also = absurd (omega (arith, also))
  length-compared (id ∷ ids) (outcome ∷ outcomes) (key ∷ keys) same also =
      ap suc (length-compared ids outcomes keys (omega (arith, same)) (omega (arith, also)))

  -- the unit at a place
  pub compared_at : (ids : List ℕ) (outcomes : List Outcome) (keys : List (Option K)) (at id : ℕ) (outcome : Outcome) (key : Option K)
      → slice_get ids at ≡ Some id → slice_get outcomes at ≡ Some outcome → slice_get keys at ≡ Some key
      → slice_get (compared_units ids outcomes keys) at ≡ Some (compared id outcome key)
  compared_at [] outcomes keys at id outcome key first second third = absurd (nothing_at at id first)
  compared_at (i ∷ ids) [] keys at id outcome key first second third = absurd (nothing_at at outcome second)
  compared_at (i ∷ ids) (o ∷ outcomes) [] at id outcome key first second third = absurd (nothing_at at key third)
  compared_at (i ∷ ids) (o ∷ outcomes) (k ∷ keys) zero id outcome key first second third =
      rw (same_Some i id first, same_Some o outcome second, same_Some k key third) refl
  compared_at (i ∷ ids) (o ∷ outcomes) (k ∷ keys) (suc at) id outcome key first second third =
      compared_at ids outcomes keys at id outcome key first second third

  -- has the id that stands there
  pub id_at : (ids : List ℕ) (outcomes : List Outcome) (keys : List (Option K)) (at : ℕ) (unit : ComparedUnit K)
      → slice_get (compared_units ids outcomes keys) at ≡ Some unit → slice_get ids at ≡ Some unit.id
  id_at [] outcomes keys at unit is = absurd (nothing_at at unit is)
  id_at (i ∷ ids) [] keys at unit is = absurd (nothing_at at unit is)
  id_at (i ∷ ids) (o ∷ outcomes) [] at unit is = absurd (nothing_at at unit is)
  id_at (i ∷ ids) (o ∷ outcomes) (k ∷ keys) zero unit is =
      ap Some (sym (compared_id i o k) ∙ ap (λ u. u.id) (same_Some (compared i o k) unit is))
  id_at (i ∷ ids) (o ∷ outcomes) (k ∷ keys) (suc at) unit is = id_at ids outcomes keys at unit is

  -- columns end to end
  pub compared_append : (ids more_ids : List ℕ) (outcomes more_outcomes : List Outcome) (keys more_keys : List (Option K))
      → length outcomes ≡ length ids → length keys ≡ length ids
      → compared_units (ids ++ more_ids) (outcomes ++ more_outcomes) (keys ++ more_keys)
      ≡ compared_units ids outcomes keys ++ compared_units more_ids more_outcomes more_keys
  compared_append [] more_ids [] more_outcomes [] more_keys same also = refl
  compared_append [] more_ids [] more_outcomes (k ∷ keys) more_keys same also = absurd (omega (arith, also))
  compared_append [] more_ids (o ∷ outcomes) more_outcomes keys more_keys same also = absurd (omega (arith, same))
  compared_append (i ∷ ids) more_ids [] more_outcomes keys more_keys same also = absurd (omega (arith, same))
  compared_append (i ∷ ids) more_ids (o ∷ outcomes) more_outcomes [] more_keys same also = absurd (omega (arith, also))
  compared_append (i ∷ ids) more_ids (o ∷ outcomes) more_outcomes (k ∷ keys) more_keys same also =
      ap (λ rest. compared i o k ∷ rest)
      (compared_append ids more_ids outcomes more_outcomes keys more_keys (omega (arith, same)) (omega (arith, also)))
