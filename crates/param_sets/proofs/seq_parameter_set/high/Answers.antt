use Rattle.std.proofs.Common.{◌∙◌, sym}
use Rattle.std.proofs.lemmas.Result.{err_from_is_err_and}
use Rattle.expgolomb.specs.TableReading.{rows_at}
use Rattle.param_sets.specs.SpsSyntax.{take, high_rows, high_fields, scaling_rows}
use Rattle.param_sets.proofs.HighProfiles.{high_absent}
use Rattle.expgolomb.proofs.Loops.{after_ok, after_err}
use Rattle.param_sets.proofs.Refusals.{refused, refused_by}
use Rattle.param_sets.proofs.seq_parameter_set.high.Goals as goal

pub returns-in_err-chroma_and_depths-clause-exact :
    goal.returns-in_err-chroma_and_depths-clause-exact
returns-in_err-chroma_and_depths-clause-exact c =
    let x = err_from_is_err_and c.from_residual.result c.from_residual.ensures.1 in
    let s = c.args.sps.now in
    let e = c.in_err-chroma_and_depths.field-0.0 in
    rw (x.1, x.2) (refused e (rows_at take high_rows s c.args.bits.now) (after_err take high_fields scaling_rows s c.args.bits.now e c.in_err-chroma_and_depths.ensures.exact))

pub seq_scaling_lists-requires-clause-none : goal.seq_scaling_lists-requires-clause-none
seq_scaling_lists-requires-clause-none c = c.chroma_and_depths.ensures.none ∙ c.requires

pub returns-in_err-seq_scaling_lists-clause-exact :
    goal.returns-in_err-seq_scaling_lists-clause-exact
returns-in_err-seq_scaling_lists-clause-exact c =
    let x = err_from_is_err_and c.from_residual-in_err-seq_scaling_lists.result c.from_residual-in_err-seq_scaling_lists.ensures.1 in
    let s = c.args.sps.now in
    let p = c.args.bits.now in
    let t = c.chroma_and_depths.new.sps in
    let q = c.chroma_and_depths.new.bits in
    let e = c.in_err-seq_scaling_lists.field-0.0 in
    rw (x.1, x.2) (refused_by e (rows_at take scaling_rows t q) (rows_at take high_rows s p) (λ h. after_ok take high_fields scaling_rows s p t q c.in_ok-chroma_and_depths.ensures.exact ∙ h) c.in_err-seq_scaling_lists.ensures.exact)

pub returns-in_ok-seq_scaling_lists-clause-exact :
    goal.returns-in_ok-seq_scaling_lists-clause-exact
returns-in_ok-seq_scaling_lists-clause-exact c =
    let t = c.chroma_and_depths.new.sps in
    let q = c.chroma_and_depths.new.bits in
    after_ok take high_fields scaling_rows c.args.sps.now c.args.bits.now t q c.in_ok-chroma_and_depths.ensures.exact ∙ c.in_ok-seq_scaling_lists.ensures.exact

pub returns-else-is_high-clause-exact : goal.returns-else-is_high-clause-exact
returns-else-is_high-clause-exact c =
    high_absent c.args.sps.now c.args.bits.now (sym c.is_high.ensures ∙ c.if-is_high.false)
