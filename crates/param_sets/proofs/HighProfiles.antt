-- The rows of the high profiles: elsewhere they are absent.
use Rattle.std.proofs.Common.{◌≡◌, [], List, true, false, Ok, refl, ◌∙◌, ap}
use Rattle.expgolomb.specs.Bits.{Place}
use Rattle.param_sets.specs.declared.fault.SetFault.{SetFault}
use Rattle.param_sets.specs.Answer.{Refuses}
use Rattle.expgolomb.specs.TableReading.{rows_at}
use Rattle.h264_types.specs.ScaleSteps.{Deltas}
use Rattle.param_sets.specs.Scaling.{take_list, list_rows}
use Rattle.param_sets.specs.SpsSyntax.{ScalingList, take, has_matrix, high_rows, high_fields, scaling_rows}
use Rattle.h264_types.specs.Profiles.{is_high}
use Rattle.h264_types.specs.declared.param_sets.sps.Sps.{Sps}
use Rattle.expgolomb.proofs.Tables.{rows_absent}
use Rattle.expgolomb.proofs.Loops.{after_ok}
use Rattle.expgolomb.proofs.Parts.{mapped, part_absent, part_read}
use Rattle.param_sets.proofs.Refusals.{refused_by}

-- without the flag there are no lists
pub lists_absent : (s : Sps) (p : Place) → has_matrix s ≡ false → rows_at take scaling_rows s p ≡ Ok (s, p)
unfolding scaling_rows
lists_absent s p none = part_absent take ScalingList (λ (t : Sps). t.scaling_lists) has_matrix (list_rows 0 8) s p none

-- all rows of the high profiles are absent
pub high_absent : (s : Sps) (p : Place) → is_high s ≡ false → rows_at take high_rows s p ≡ Ok (s, p)
high_absent s p plain =
    after_ok take high_fields scaling_rows s p s p (rows_absent take high_fields s p (plain, (plain, (plain, (plain, (plain, tt)))))) ∙ lists_absent s p (rw plain refl)

-- the set with these lists
abbrev pub with_lists : Sps → List Deltas → Sps
with_lists s lists = record s { scaling_lists = lists }

-- with the flag, the lists are those of their own table
lists_as : (s : Sps) (p : Place) → has_matrix s ≡ true → s.scaling_lists ≡ [] → rows_at take scaling_rows s p ≡ mapped (with_lists s) (rows_at take_list (list_rows 0 8) [] p)
unfolding scaling_rows
lists_as s p there none =
    ap (λ (ls : List Deltas). rows_at take scaling_rows (with_lists s ls) p) none ∙ part_read take take_list ScalingList (λ (t : Sps). t.scaling_lists) has_matrix (with_lists s) (λ ls. refl) (λ ls. there) (λ f v ls. refl) (list_rows 0 8) [] p

pub lists_read : (s : Sps) (lists : List Deltas) (p q : Place) → has_matrix s ≡ true → s.scaling_lists ≡ [] → rows_at take_list (list_rows 0 8) [] p ≡ Ok (lists, q) → rows_at take scaling_rows s p ≡ Ok (with_lists s lists, q)
lists_read s lists p q there none read = lists_as s p there none ∙ ap (mapped (with_lists s)) read

pub lists_fault : (s : Sps) (e : SetFault) (p : Place) → has_matrix s ≡ true → s.scaling_lists ≡ [] → Refuses e (rows_at take_list (list_rows 0 8) [] p) → Refuses e (rows_at take scaling_rows s p)
lists_fault s e p there none fault =
    refused_by e (rows_at take_list (list_rows 0 8) [] p) (rows_at take scaling_rows s p) (λ h. lists_as s p there none ∙ ap (mapped (with_lists s)) h) fault
