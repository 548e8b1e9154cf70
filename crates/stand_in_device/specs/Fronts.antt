-- The front of a record, as it is kept.
use Rattle.std.specs.Prelude.{◌≡◌, ℕ, List}
use Rattle.sha2.specs.Hashers.{Holds256}
use Rattle.sha2.specs.declared.Sha256.{Sha256}
use Rattle.param_set_controls.specs.declared.set_controls.SetControls.{SetControls}
use Rattle.param_set_controls.specs.SetsForm.{sets_form}

-- the bytes are the form of the controls that the parameter sets decide, and the hasher took it
pub record IsFront (sets : SetControls) (form : List ℕ) (hasher : Sha256) : Type 0 where
  pub bytes : form ≡ sets_form sets
  pub hashed : Holds256 hasher (sets_form sets)
