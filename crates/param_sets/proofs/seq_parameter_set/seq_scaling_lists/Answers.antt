use Rattle.std.proofs.Common.{◌≡◌, refl, true, false}
use Rattle.std.proofs.lemmas.Result.{err_from_is_err_and}
use Rattle.h264_types.specs.Profiles.{is_high}
use Rattle.param_sets.specs.SpsSyntax.{has_matrix}
use Rattle.h264_types.specs.declared.param_sets.sps.Sps.{Sps}
use Rattle.param_sets.proofs.HighProfiles.{lists_absent, lists_read, lists_fault}
use Rattle.param_sets.proofs.seq_parameter_set.seq_scaling_lists.Goals as goal

-- a high set has a matrix where its flag says so
there : (s : Sps) → is_high s ≡ true → s.seq_scaling_matrix_present_flag ≡ true → has_matrix s ≡ true
there s high flag = rw (high, flag) refl

absent : (s : Sps) → is_high s ≡ true → s.seq_scaling_matrix_present_flag ≡ false → has_matrix s ≡ false
absent s high flag = rw (high, flag) refl

pub returns-in_err-sps-clause-exact : goal.returns-in_err-sps-clause-exact
returns-in_err-sps-clause-exact c =
    let x = err_from_is_err_and c.from_residual.result c.from_residual.ensures.1 in
    let s = c.args.sps.now in
    rw (x.1, x.2) (lists_fault s c.in_err-sps.field-0.0 c.args.bits.now (there s c.requires.high c.if-sps.true) c.requires.none c.in_err-sps.ensures)

pub returns-in_ok-sps-clause-exact : goal.returns-in_ok-sps-clause-exact
returns-in_ok-sps-clause-exact c =
    let s = c.args.sps.now in
    lists_read s c.in_ok-sps.field-0 c.args.bits.now c.scaling_lists.new.bits (there s c.requires.high c.if-sps.true) c.requires.none c.in_ok-sps.ensures

pub returns-else-sps-clause-exact : goal.returns-else-sps-clause-exact
returns-else-sps-clause-exact c =
    lists_absent c.args.sps.now c.args.bits.now (absent c.args.sps.now c.requires.high c.if-sps.false)
