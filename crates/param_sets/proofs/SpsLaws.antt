-- The sequence parameter set of a payload is what reading gives, and nothing else is.
use Rattle.std.proofs.Common.{◌≡◌, ℕ, ◌<◌, List, [], length, Result, Ok, Err, refl, ◌∙◌, ap, arith}
use Rattle.expgolomb.specs.Bits.{Place}
use Rattle.expgolomb.proofs.ExpGolomb.{fixed_short}
use Rattle.param_sets.specs.declared.fault.SetFault.{SetFault}
use Rattle.param_sets.specs.declared.fault.SetFault.TheVariants.{Cut}
use Rattle.h264_types.specs.declared.param_sets.sps.Sps.{Sps}
use Rattle.param_sets.specs.Answer.{Stores}
use Rattle.expgolomb.specs.TableReading.{unsigned, checked, value_at, rows_at}
use Rattle.expgolomb.specs.Payloads.{after_first}
use Rattle.param_sets.specs.Sets.{first_of, IsSps, SpsHasFault, sps_at, Answers}
use Rattle.param_sets.specs.SpsSyntax.{take, no_sps, profile_row, profile_range, sps_rows}
use Rattle.expgolomb.proofs.Tables.{rows_found, rows_only, rows_fault, fault_rows}
use Rattle.expgolomb.proofs.Loops.{rows_stop}
use Rattle.param_sets.proofs.Refusals.{refused_by}
use Rattle.param_sets.proofs.SetLaws.{first_ok, first_err}

pub sps_found : (payload : List ℕ) (set : Sps) → sps_at payload ≡ Ok set → IsSps payload set
unfolding sps_at
sps_found payload set is =
    let read = first_ok (rows_at take sps_rows no_sps (after_first payload)) (λ (s : Sps). s) set is in
    let rows = rows_found take sps_rows no_sps (after_first payload) read.0 read.1 in
    record { header = rows.0; after = read.0.1; rows = rows.1; values = rows.2 ∙ read.2 }

pub sps_only : (payload : List ℕ) (set : Sps) → IsSps payload set → sps_at payload ≡ Ok set
unfolding sps_at
sps_only payload set is =
    ap (first_of (λ (s : Sps). s)) (rows_only take sps_rows no_sps (after_first payload) is.header is.after is.rows) ∙ ap Ok is.values

pub sps_fault : (payload : List ℕ) (e : SetFault) → sps_at payload ≡ Err e → SpsHasFault payload e
unfolding sps_at
sps_fault payload e is =
    rows_fault take sps_rows no_sps (after_first payload) e (first_err (rows_at take sps_rows no_sps (after_first payload)) (λ (s : Sps). s) e is)

pub sps_refused : (payload : List ℕ) (e : SetFault) → SpsHasFault payload e → sps_at payload ≡ Err e
unfolding sps_at
sps_refused payload e has =
    ap (first_of (λ (s : Sps). s)) (fault_rows take sps_rows no_sps (after_first payload) e has)

-- the reader's answer is the set's
pub sps_answer : (payload : List ℕ) (r : Result Sps SetFault) (q : Place) → Stores (λ s. s) r q (rows_at take sps_rows no_sps (after_first payload)) → Answers r (sps_at payload)
unfolding sps_at
sps_answer payload (Ok s) q read = ap (first_of (λ (s : Sps). s)) read
sps_answer payload (Err e) q read =
    refused_by e (rows_at take sps_rows no_sps (after_first payload)) (first_of (λ (s : Sps). s) (rows_at take sps_rows no_sps (after_first payload))) (λ h. ap (first_of (λ (s : Sps). s)) h) read

-- no bit is after the header
pub sps_empty : (payload : List ℕ) → (after_first payload).rest ≡ [] → sps_at payload ≡ Err Cut
unfolding sps_at sps_rows value_at
sps_empty payload none =
    let short : length (after_first payload).rest < 8 = omega (arith, ap length none) in
    ap (first_of (λ (s : Sps). s)) (rows_stop take profile_row _ no_sps (after_first payload) Cut refl (ap (λ r. checked Cut Cut profile_range (unsigned r)) (fixed_short 8 (after_first payload) short)))
