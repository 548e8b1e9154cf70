-- The picture parameter set of a payload is what reading gives, and nothing else is.
use Rattle.std.proofs.Common.{◌≡◌, ℕ, Bool, List, [], Result, Ok, Err, refl, ◌∙◌, ap}
use Rattle.expgolomb.specs.Bits.{Place}
use Rattle.expgolomb.specs.Reading.{ue_at}
use Rattle.expgolomb.proofs.Loops.{rows_stop}
use Rattle.param_sets.specs.declared.fault.SetFault.{SetFault}
use Rattle.param_sets.specs.declared.fault.SetFault.TheVariants.{Cut}
use Rattle.h264_types.specs.declared.param_sets.pps.Pps.{Pps}
use Rattle.param_sets.specs.Answer.{Stores}
use Rattle.expgolomb.specs.TableReading.{rows_at, value_at}
use Rattle.expgolomb.specs.Payloads.{after_first}
use Rattle.param_sets.specs.Sets.{first_of, IsPps, PpsHasFault, pps_at, Answers}
use Rattle.param_sets.specs.PpsSyntax.{PpsSoFar, so_far, take, no_pps, id_row, pps_rows}
use Rattle.expgolomb.proofs.Tables.{rows_found, rows_only, rows_fault, fault_rows}
use Rattle.param_sets.proofs.Refusals.{refused_by}
use Rattle.param_sets.proofs.SetLaws.{first_ok, first_err}

pub pps_found : (payload : List ℕ) (set : Pps) → pps_at payload ≡ Ok set → IsPps payload set
unfolding pps_at
pps_found payload set is =
    let read = first_ok (rows_at take pps_rows no_pps (after_first payload)) (λ (s : PpsSoFar). s.pps) set is in
    let rows = rows_found take pps_rows no_pps (after_first payload) read.0 read.1 in
    record { header = rows.0; after = read.0.1; rows = rows.1; values = ap (λ (s : PpsSoFar). s.pps) rows.2 ∙ read.2 }

pub pps_only : (payload : List ℕ) (set : Pps) → IsPps payload set → pps_at payload ≡ Ok set
unfolding pps_at
pps_only payload set is =
    ap (first_of (λ (s : PpsSoFar). s.pps)) (rows_only take pps_rows no_pps (after_first payload) is.header is.after is.rows) ∙ ap Ok is.values

pub pps_fault : (payload : List ℕ) (e : SetFault) → pps_at payload ≡ Err e → PpsHasFault payload e
unfolding pps_at
pps_fault payload e is =
    rows_fault take pps_rows no_pps (after_first payload) e (first_err (rows_at take pps_rows no_pps (after_first payload)) (λ (s : PpsSoFar). s.pps) e is)

pub pps_refused : (payload : List ℕ) (e : SetFault) → PpsHasFault payload e → pps_at payload ≡ Err e
unfolding pps_at
pps_refused payload e has =
    ap (first_of (λ (s : PpsSoFar). s.pps)) (fault_rows take pps_rows no_pps (after_first payload) e has)

-- the reader's answer is the set's
pub pps_answer : (payload : List ℕ) (more : Bool) (r : Result Pps SetFault) (q : Place) → Stores (so_far more) r q (rows_at take pps_rows no_pps (after_first payload)) → Answers r (pps_at payload)
unfolding pps_at
pps_answer payload more (Ok s) q read = ap (first_of (λ (t : PpsSoFar). t.pps)) read
pps_answer payload more (Err e) q read =
    refused_by e (rows_at take pps_rows no_pps (after_first payload)) (first_of (λ (t : PpsSoFar). t.pps) (rows_at take pps_rows no_pps (after_first payload))) (λ h. ap (first_of (λ (t : PpsSoFar). t.pps)) h) read

-- no bit is after the header
pub pps_empty : (payload : List ℕ) → (after_first payload).rest ≡ [] → pps_at payload ≡ Err Cut
unfolding pps_at pps_rows value_at ue_at
pps_empty payload none =
    ap (first_of (λ (s : PpsSoFar). s.pps)) (rows_stop take id_row _ no_pps (after_first payload) Cut refl (rw none refl))
