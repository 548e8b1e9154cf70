-- Ids that edits give, and rows that keep them.
use Rattle.std.proofs.Common.{◌≡◌, ℕ, zero, suc, ◌≤◌, List, [], ◌∷◌, ◌++◌, length, take, refl, ap, arith}
use Rattle.std.specs.List.{AllByRecursion}
use Rattle.stream_edits.specs.declared.edits.Edit.{Edit}
use Rattle.edit_journal.specs.declared.line.RowStep.{RowStep}
use Rattle.session_journal.specs.RecordRows.{given_after, given_after_edits, row_of, rows_of_edits}
use Rattle.session_journal.proofs.KeptLemmas.{grows}

-- as many rows as edits
pub length-rows_of_edits : (given : ℕ) (edits : List Edit) → length (rows_of_edits given edits) ≡ length edits
length-rows_of_edits given [] = refl
length-rows_of_edits given (edit ∷ edits) = omega (arith, length-rows_of_edits (given_after given edit) edits)

-- the rows of the first edits are the first ones
pub take-rows_of_edits : (n given : ℕ) (edits : List Edit) → take n (rows_of_edits given edits) ≡ rows_of_edits given (take n edits)
take-rows_of_edits zero given edits = refl
take-rows_of_edits (suc n) given [] = refl
take-rows_of_edits (suc n) given (edit ∷ edits) = ap (λ (more : List RowStep). row_of given edit ∷ more) (take-rows_of_edits n (given_after given edit) edits)

-- the first edits give no more ids than all
pub first_grow : (n given : ℕ) (edits : List Edit) → given_after_edits given (take n edits) ≤ given_after_edits given edits
first_grow zero given edits = grows given edits
first_grow (suc n) given [] = omega arith
first_grow (suc n) given (edit ∷ edits) = first_grow n (given_after given edit) edits

-- what holds of each holds of the last one
pub all_last : {X : Type 0} (P : X → Type 0) (xs : List X) (x : X) → AllByRecursion P (xs ++ x ∷ []) → P x
all_last P [] x all = all.0
all_last P (first ∷ xs) x all = all_last P xs x all.1
