-- The table, where the slice has one.
use Rattle.std.proofs.Common.{◌≡◌, ◌+◌, true, false, not, sym, ◌∙◌, refl}
use Rattle.std.proofs.lemmas.Result.{err_from_is_err_and}
use Rattle.slice_header.specs.SliceHeaderSyntax.{is_monochrome, is_weighted, weights_of}
use Rattle.slice_header.specs.PredWeightTableSyntax.{weight_syntax}
use Rattle.h264_types.specs.SliceTypes.{is_b}
use Rattle.std.specs.Prelude.{if◌then◌else◌}
use Rattle.expgolomb.specs.Structures.{syntax_at}
use Rattle.slice_header.proofs.Refusals.{refuses_all}
use Rattle.expgolomb.proofs.Structures.{followed_by_at}
use Rattle.slice_header.proofs.headers.weights.Goals as goal

pub returns-else-is_weighted-clause-exact : goal.returns-else-is_weighted-clause-exact
unfolding weights_of syntax_at
returns-else-is_weighted-clause-exact c =
    let none : is_weighted c.args.slice_type c.args.pps.now ≡ false = sym c.is_weighted.ensures ∙ c.if-is_weighted.false in
    rw none refl

pub returns-in_ok-table-clause-exact : goal.returns-in_ok-table-clause-exact
unfolding weights_of syntax_at
returns-in_ok-table-clause-exact c =
    let some : is_weighted c.args.slice_type c.args.pps.now ≡ true = sym c.is_weighted.ensures ∙ c.if-is_weighted.true in
    let table = rw (c.has_chroma.ensures, c.active_l1-list1.ensures.value) at c.in_ok-table.ensures.exact in
    rw (some, followed_by_at, table) refl

pub returns-in_err-table-clause-exact : goal.returns-in_err-table-clause-exact
unfolding weights_of syntax_at
returns-in_err-table-clause-exact c =
    let p = err_from_is_err_and c.from_residual.result c.from_residual.ensures.1 in
    let some : is_weighted c.args.slice_type c.args.pps.now ≡ true = sym c.is_weighted.ensures ∙ c.if-is_weighted.true in
    let stop = rw (c.has_chroma.ensures, c.active_l1-list1.ensures.value) at c.in_err-table.ensures.exact in
    rw (p.1, p.2) (refuses_all c.in_err-table.field-0.0
    (syntax_at (weight_syntax (not (is_monochrome c.args.sps.now.chroma_format_idc)) (c.args.l0 + 1) (if is_b c.args.slice_type then c.args.l1 + 1 else 0)) c.args.bits.now)
    (syntax_at (weights_of c.args.slice_type c.args.l0 c.args.l1 c.args.sps.now c.args.pps.now) c.args.bits.now)
    (λ d is. rw (some, followed_by_at, is) refl) stop)
