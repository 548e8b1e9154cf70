-- The first refusal of several lists of rows is that of the first list which shows one.
use Rattle.std.proofs.Common.{◌≡◌, ℕ, ⊎_elim, true, false, List, [], ◌∷◌, ◌++◌, None, Some, refl, inl, inr}
use Rattle.std.specs.List.{filter}
use Rattle.std.specs.Option.{option_or}
use Rattle.annexb.specs.NalUnit.{is_slice}
use Rattle.access_unit.specs.declared.refused.Refused.{Refused}
use Rattle.access_unit.specs.Refusals.{Row, first_shown, header_rows, set_rows, order_rows, refusal_at}
use Rattle.access_unit.specs.Stored.{IsShown}

first_shown-append : (rows more : List Row) → first_shown (rows ++ more) ≡ option_or (first_shown rows) (first_shown more)
first_shown-append [] more = refl
first_shown-append ((refused, true) ∷ rows) more = refl
first_shown-append ((refused, false) ∷ rows) more = first_shown-append rows more

module _ (before : List (List ℕ)) (unit : List ℕ) where
  parts_shown : refusal_at before unit
      ≡ option_or (option_or (first_shown (header_rows unit)) (first_shown (set_rows unit))) (first_shown (order_rows (filter is_slice before) unit))
  unfolding refusal_at
  parts_shown = rw (first_shown-append (header_rows unit ++ set_rows unit), first_shown-append (header_rows unit)) refl

  pub IsShown-header : (refused : Refused) → Some refused ≡ first_shown (header_rows unit) → IsShown (refusal_at before unit) refused
  IsShown-header refused shown = inr (rw (parts_shown, ← shown) refl)

  module _ (passed : None ≡ first_shown (header_rows unit)) where
    pub IsShown-set : (refused : Refused) → IsShown (first_shown (set_rows unit)) refused → IsShown (refusal_at before unit) refused
    IsShown-set refused h = ⊎_elim (λ memory. inl memory) (λ (shown : first_shown (set_rows unit) ≡ Some refused). inr (rw (parts_shown, ← passed, shown) refl)) h

    -- after its parameter set, the slices before it decide
    pub refusal_at-order : (slices : List (List ℕ)) → slices ≡ filter is_slice before → first_shown (set_rows unit) ≡ None
        → refusal_at before unit ≡ first_shown (order_rows slices unit)
    refusal_at-order slices known read = rw (parts_shown, ← passed, read, known) refl
