-- Sections of a table, read one after the other.
use Rattle.std.proofs.Common.{◌≡◌, ◌++◌, List, Result, Ok, Err, ℤ, ◌∙◌}
use Rattle.expgolomb.specs.Bits.{Place}
use Rattle.param_sets.specs.Answer.{Refuses}
use Rattle.expgolomb.specs.Grammar.{Row}
use Rattle.expgolomb.specs.TableReading.{rows_at}
use Rattle.param_sets.specs.declared.fault.SetFault.{SetFault}
use Rattle.expgolomb.proofs.Loops.{after_ok, after_err}
use Rattle.param_sets.proofs.Refusals.{refused, refused_by}

-- a section was read, and the rest is left
pub further : {F S : Type 0} (take : F → ℤ → S → S) (xs ys : List (Row F S SetFault)) (whole : Result (S × Place) SetFault) (s t : S) (q r : Place) → whole ≡ rows_at take (xs ++ ys) s q → rows_at take xs s q ≡ Ok (t, r) → whole ≡ rows_at take ys t r
further take xs ys whole s t q r left read = left ∙ after_ok take xs ys s q t r read

-- a section shows a fault
pub stopped : {F S : Type 0} (take : F → ℤ → S → S) (xs ys : List (Row F S SetFault)) (whole : Result (S × Place) SetFault) (s : S) (q : Place) (e : SetFault) → whole ≡ rows_at take (xs ++ ys) s q → Refuses e (rows_at take xs s q) → Refuses e whole
stopped take xs ys whole s q e left fault =
    refused_by e (rows_at take xs s q) whole (λ h. left ∙ after_err take xs ys s q e h) fault

pub stopped_at : {F S : Type 0} (take : F → ℤ → S → S) (xs ys : List (Row F S SetFault)) (whole : Result (S × Place) SetFault) (s : S) (q : Place) (e : SetFault) → whole ≡ rows_at take (xs ++ ys) s q → rows_at take xs s q ≡ Err e → Refuses e whole
stopped_at take xs ys whole s q e left fault = refused e whole (left ∙ after_err take xs ys s q e fault)

-- the last section
pub stopped_last : {F S : Type 0} (take : F → ℤ → S → S) (xs : List (Row F S SetFault)) (whole : Result (S × Place) SetFault) (s : S) (q : Place) (e : SetFault) → whole ≡ rows_at take xs s q → Refuses e (rows_at take xs s q) → Refuses e whole
stopped_last take xs whole s q e left fault = refused_by e (rows_at take xs s q) whole (λ h. left ∙ h) fault
