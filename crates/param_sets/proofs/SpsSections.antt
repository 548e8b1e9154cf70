-- The sections of the table of sequence parameter sets, one after the other.
use Rattle.std.proofs.Common.{◌≡◌, ◌++◌, List, Ok, Err, ◌∙◌}
use Rattle.expgolomb.specs.Bits.{Place}
use Rattle.param_sets.specs.Answer.{Refuses}
use Rattle.expgolomb.specs.TableReading.{rows_at}
use Rattle.param_sets.specs.SpsSyntax.{take, no_sps, SpsRow, beginning_rows, high_rows, count_rows, typed_rows, frame_rows, size_rows, sps_rows}
use Rattle.param_sets.specs.declared.fault.SetFault.{SetFault}
use Rattle.h264_types.specs.declared.param_sets.sps.Sps.{Sps}
use Rattle.expgolomb.proofs.Loops.{after_ok, after_err}
use Rattle.param_sets.proofs.Refusals.{refused, refused_by}

-- the sections from the types of counts on
abbrev pub from_types : List SpsRow
from_types = typed_rows ++ (frame_rows ++ size_rows)

abbrev pub from_counts : List SpsRow
from_counts = count_rows ++ from_types

-- what was read before a section, and what is left
abbrev pub Left : List SpsRow → Place → Sps → Place → Type 0
Left rows p s q = rows_at take sps_rows no_sps p ≡ rows_at take rows s q

pub begun : (s : Sps) (p q : Place) → rows_at take beginning_rows no_sps p ≡ Ok (s, q) → Left (high_rows ++ from_counts) p s q
unfolding sps_rows
begun s p q read = after_ok take beginning_rows (high_rows ++ from_counts) no_sps p s q read

pub not_begun : (p : Place) (e : SetFault) → rows_at take beginning_rows no_sps p ≡ Err e → Refuses e (rows_at take sps_rows no_sps p)
unfolding sps_rows
not_begun p e read = refused e (rows_at take sps_rows no_sps p) (after_err take beginning_rows (high_rows ++ from_counts) no_sps p e read)

-- a section was read
pub further : (xs ys : List SpsRow) (s t : Sps) (p q r : Place) → Left (xs ++ ys) p s q → rows_at take xs s q ≡ Ok (t, r) → Left ys p t r
further xs ys s t p q r left read = left ∙ after_ok take xs ys s q t r read

-- a section shows a fault
pub stopped : (xs ys : List SpsRow) (s : Sps) (p q : Place) (e : SetFault) → Left (xs ++ ys) p s q → Refuses e (rows_at take xs s q) → Refuses e (rows_at take sps_rows no_sps p)
stopped xs ys s p q e left fault =
    refused_by e (rows_at take xs s q) (rows_at take sps_rows no_sps p) (λ h. left ∙ after_err take xs ys s q e h) fault

-- the last section
pub stopped_last : (xs : List SpsRow) (s : Sps) (p q : Place) (e : SetFault) → Left xs p s q → Refuses e (rows_at take xs s q) → Refuses e (rows_at take sps_rows no_sps p)
stopped_last xs s p q e left fault =
    refused_by e (rows_at take xs s q) (rows_at take sps_rows no_sps p) (λ h. left ∙ h) fault
