-- Part by part the header is read; a fault is that of the first part that shows one.
use Rattle.std.proofs.Common.{not, refl}
use Rattle.std.specs.Prelude.{◌==◌}
use Rattle.std.proofs.lemmas.Result.{err_from_is_err_and}
use Rattle.annexb.specs.NalUnit.{nal_ref_idc, nal_unit_type}
use Rattle.slice_header.specs.SliceHeaders.{syntax_of}
use Rattle.slice_header.specs.SliceHeaderSyntax.{header_syntax, reference_syntax, ending_syntax}
use Rattle.expgolomb.specs.Structures.{syntax_at}
use Rattle.slice_header.proofs.Refusals.{refuses_is, refuses_all}
use Rattle.expgolomb.proofs.Structures.{followed_by_at}
use Rattle.slice_header.proofs.headers.header_fields.Goals as goal

pub returns-in_err-picture : goal.returns-in_err-picture
unfolding header_syntax syntax_at
returns-in_err-picture c =
    let p = err_from_is_err_and c.from_residual.result c.from_residual.ensures.1 in
    let stop = rw c.nal_unit_type-is_idr.ensures at c.in_err-picture.ensures.exact in
    rw (p.1, p.2) (refuses_is c.in_err-picture.field-0.0 (syntax_at (syntax_of c.args.nal.now c.args.sps.now c.args.pps.now) c.args.bits.now)
    (rw (followed_by_at, stop) refl))

pub returns-in_err-references : goal.returns-in_err-references
unfolding header_syntax syntax_at
returns-in_err-references c =
    let p = err_from_is_err_and c.from_residual-in_err-references.result c.from_residual-in_err-references.ensures.1 in
    let picture = rw c.nal_unit_type-is_idr.ensures at c.in_ok-picture.ensures.exact in
    rw (p.1, p.2) (refuses_all c.in_err-references.field-0.0 (syntax_at (reference_syntax c.in_ok-picture.picture.front.slice_type c.args.sps.now c.args.pps.now) c.picture_part.new.bits) (syntax_at (syntax_of c.args.nal.now c.args.sps.now c.args.pps.now) c.args.bits.now)
    (λ d is. rw (followed_by_at, picture, followed_by_at, is) refl) c.in_err-references.ensures.exact)

pub returns-in_err-ending : goal.returns-in_err-ending
unfolding header_syntax syntax_at
returns-in_err-ending c =
    let p = err_from_is_err_and c.from_residual-in_err-ending.result c.from_residual-in_err-ending.ensures.1 in
    let picture = rw c.nal_unit_type-is_idr.ensures at c.in_ok-picture.ensures.exact in
    let references = c.in_ok-references.ensures.exact in
    rw (p.1, p.2) (refuses_all c.in_err-ending.field-0.0 (syntax_at (ending_syntax (not (nal_ref_idc c.args.nal.now == 0)) (nal_unit_type c.args.nal.now == 5) c.in_ok-picture.picture.front.slice_type c.args.pps.now) c.reference_part.new.bits) (syntax_at (syntax_of c.args.nal.now c.args.sps.now c.args.pps.now) c.args.bits.now)
    (λ d is. rw (followed_by_at, picture, followed_by_at, references, followed_by_at, is) refl) (rw (c.nal_ref_idc-is_reference.ensures, c.nal_unit_type-is_idr.ensures) at c.in_err-ending.ensures))

pub returns : goal.returns
unfolding header_syntax syntax_at
returns c =
    let picture = rw c.nal_unit_type-is_idr.ensures at c.in_ok-picture.ensures.exact in
    let references = c.in_ok-references.ensures.exact in
    let ending = rw (c.nal_ref_idc-is_reference.ensures, c.nal_unit_type-is_idr.ensures) at c.in_ok-ending.ensures in
    rw (followed_by_at, picture, followed_by_at, references, followed_by_at, ending) refl
