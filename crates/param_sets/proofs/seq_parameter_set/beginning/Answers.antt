use Rattle.std.proofs.Common.{◌≡◌, ◌∙◌, ◌++◌, ℕ, pos, List, Bool, Ok, refl}
use Rattle.std.proofs.lemmas.Result.{err_from_is_err_and}
use Rattle.expgolomb.specs.Bits.{Place}
use Rattle.expgolomb.specs.TableReading.{field_at, rows_at}
use Rattle.param_sets.specs.SpsSyntax.{take, no_sps, profile_row, beginning_rows, constraint_rows, level_rows}
use Rattle.h264_types.specs.declared.param_sets.sps.Sps.{Sps}
use Rattle.expgolomb.proofs.Loops.{rows_step, rows_stop, after_ok, after_err}
use Rattle.param_sets.proofs.seq_parameter_set.beginning.Goals as goal

-- a set of which the profile is read, and then the flags
abbrev with_profile : ℕ → Sps
with_profile profile = record no_sps { profile_idc = profile }

abbrev with_flags : ℕ → List Bool → Sps
with_flags profile flags = record no_sps { profile_idc = profile; constraint_set_flags = flags }

after_profile : (profile : ℕ) (p q : Place) → field_at profile_row no_sps p ≡ Ok (pos profile, q) → rows_at take beginning_rows no_sps p ≡ rows_at take (constraint_rows ++ level_rows) (with_profile profile) q
after_profile profile p q read = rows_step take profile_row (constraint_rows ++ level_rows) no_sps p (pos profile) q refl read

after_flags : (profile : ℕ) (flags : List Bool) (p q r : Place) → field_at profile_row no_sps p ≡ Ok (pos profile, q) → rows_at take constraint_rows (with_profile profile) q ≡ Ok (with_flags profile flags, r) → rows_at take beginning_rows no_sps p ≡ rows_at take level_rows (with_flags profile flags) r
after_flags profile flags p q r read flagged = after_profile profile p q read ∙ after_ok take constraint_rows level_rows (with_profile profile) q (with_flags profile flags) r flagged

pub returns-in_err-profile_idc-clause-exact : goal.returns-in_err-profile_idc-clause-exact
returns-in_err-profile_idc-clause-exact c =
    let p = err_from_is_err_and c.from_residual.result c.from_residual.ensures.1 in
    rw (p.1, p.2) (rows_stop take profile_row (constraint_rows ++ level_rows) no_sps c.args.bits.now c.in_err-profile_idc.field-0.0 refl c.in_err-profile_idc.ensures)

pub returns-in_err-constraint_set_flags-clause-exact :
    goal.returns-in_err-constraint_set_flags-clause-exact
returns-in_err-constraint_set_flags-clause-exact c =
    let p = err_from_is_err_and c.from_residual-in_err-constraint_set_flags.result c.from_residual-in_err-constraint_set_flags.ensures.1 in
    let profile = c.in_ok-profile_idc.profile_idc in
    rw (p.1, p.2) (after_profile profile c.args.bits.now c.profile_idc.new.bits c.in_ok-profile_idc.ensures ∙ after_err take constraint_rows level_rows (with_profile profile) c.profile_idc.new.bits c.in_err-constraint_set_flags.field-0.0 (c.in_err-constraint_set_flags.ensures (with_profile profile)))

pub returns-in_err-level_idc-clause-exact : goal.returns-in_err-level_idc-clause-exact
returns-in_err-level_idc-clause-exact c =
    let p = err_from_is_err_and c.from_residual-in_err-level_idc.result c.from_residual-in_err-level_idc.ensures.1 in
    let profile = c.in_ok-profile_idc.profile_idc in
    let flags = c.in_ok-constraint_set_flags.constraint_set_flags in
    rw (p.1, p.2) (after_flags profile flags c.args.bits.now c.profile_idc.new.bits c.constraint_set_flags.new.bits c.in_ok-profile_idc.ensures (c.in_ok-constraint_set_flags.ensures (with_profile profile)) ∙ c.in_err-level_idc.ensures (with_flags profile flags))

pub returns-clause-exact : goal.returns-clause-exact
returns-clause-exact c =
    let profile = c.in_ok-profile_idc.profile_idc in
    let flags = c.in_ok-constraint_set_flags.constraint_set_flags in
    rw (c.new.ensures, c.new-2.ensures, c.new-3.ensures, c.new-4.ensures, c.new-5.ensures, c.new-6.ensures, c.new-7.ensures) (after_flags profile flags c.args.bits.now c.profile_idc.new.bits c.constraint_set_flags.new.bits c.in_ok-profile_idc.ensures (c.in_ok-constraint_set_flags.ensures (with_profile profile)) ∙ c.in_ok-level_idc.ensures (with_flags profile flags))
