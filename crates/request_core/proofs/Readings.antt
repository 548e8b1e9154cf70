-- A step of the fold is what the unit leads to as it was read.
use Rattle.std.proofs.Common.{◌≡◌, ℕ, List, Ok, Err, ap, sym, ◌∙◌}
use Rattle.unit_outcomes.specs.declared.outcome.Outcome.{Outcome}
use Rattle.unit_outcomes.specs.declared.outcome.Outcome.TheVariants.{Fault}
use Rattle.unit_outcomes.specs.declared.validity_fault.ValidityFault.{ValidityFault}
use Rattle.request_core.specs.Fold.{fold_step, outcome_of}
use Rattle.request_core.specs.Readings.{ReadUnit, leads_to, read_of}
use Rattle.request_core.specs.States.{FoldState}

module _ (before : FoldState) (id : ℕ) (unit : List (List ℕ)) (read : ReadUnit) (is : read ≡ read_of before unit) where
  step_is : outcome_of read.state (leads_to read id) ≡ fold_step before id unit
  unfolding fold_step
  step_is = ap (λ (read : ReadUnit). outcome_of read.state (leads_to read id)) is

  -- with a picture, or with no slice
  pub step_found : (step : FoldState × Outcome) → leads_to read id ≡ Ok step → step ≡ fold_step before id unit
  step_found step says = sym (ap (outcome_of read.state) says) ∙ step_is

  -- with a fault
  pub step_faulted : (fault : ValidityFault) → leads_to read id ≡ Err fault
      → (read.state, Fault fault) ≡ fold_step before id unit
  step_faulted fault says = sym (ap (outcome_of read.state) says) ∙ step_is
