-- The parameter set of a payload, or what the payload shows instead.
use Rattle.std.specs.Prelude.{◌≡◌, ℕ, List, Result, Ok, Err}
use Rattle.expgolomb.specs.Bits.{Place, start, skip}
use Rattle.param_sets.specs.declared.fault.SetFault.{SetFault}
use Rattle.param_sets.specs.declared.fault.SetFault.TheVariants.{Memory}
use Rattle.h264_types.specs.declared.param_sets.sps.Sps.{Sps}
use Rattle.h264_types.specs.declared.param_sets.pps.Pps.{Pps}
use Rattle.expgolomb.specs.Grammar.{Header, values, HasRows, HasFault}
use Rattle.expgolomb.specs.TableReading.{rows_at}
use Rattle.expgolomb.specs.Payloads.{after_first}
use Rattle.param_sets.specs.Answer.{Refuses}
use Rattle.param_sets.specs.SpsSyntax as sps
use Rattle.param_sets.specs.PpsSyntax as pps

-- the payload has this sequence parameter set: its header says so
pub record IsSps (payload : List ℕ) (set : Sps) : Type 0 where
  pub header : Header sps.SpsField
  pub after : Place
  pub rows : HasRows sps.take sps.sps_rows sps.no_sps (after_first payload) header after
  pub values : values sps.take sps.no_sps header ≡ set

abbrev pub SpsHasFault : List ℕ → SetFault → Type 0
SpsHasFault payload fault = HasFault sps.take sps.sps_rows sps.no_sps (after_first payload) fault

-- the payload has this picture parameter set
pub record IsPps (payload : List ℕ) (set : Pps) : Type 0 where
  pub header : Header pps.PpsField
  pub after : Place
  pub rows : HasRows pps.take pps.pps_rows pps.no_pps (after_first payload) header after
  pub values : (values pps.take pps.no_pps header).pps ≡ set

abbrev pub PpsHasFault : List ℕ → SetFault → Type 0
PpsHasFault payload fault = HasFault pps.take pps.pps_rows pps.no_pps (after_first payload) fault

-- the same as functions of the payload
abbrev pub first_of : {A B : Type 0} → (A → B) → Result (A × Place) SetFault → Result B SetFault
first_of view (Ok x) = Ok (view x.0)
first_of view (Err e) = Err e

unfoldable pub sps_at : List ℕ → Result Sps SetFault
sps_at payload = first_of (λ s. s) (rows_at sps.take sps.sps_rows sps.no_sps (after_first payload))

unfoldable pub pps_at : List ℕ → Result Pps SetFault
pps_at payload = first_of (λ s. s.pps) (rows_at pps.take pps.pps_rows pps.no_pps (after_first payload))

-- a call answers what reading gives, unless memory ran out
abbrev pub Answers : {A : Type 0} → Result A SetFault → Result A SetFault → Type 0
Answers (Ok x) read = read ≡ Ok x
Answers (Err e) read = Refuses e read

-- a fault that is answered is shown, unless memory ran out
abbrev pub IsShown : (SetFault → Type 0) → SetFault → Type 0
IsShown shows Memory = Unit {0}
IsShown shows e = shows e
