use Rattle.std.proofs.Common.{refl}
use Rattle.std.proofs.lemmas.Result.{err_from_is_err_and}
use Rattle.h264_types.specs.SliceTypes.{has_list, is_b}
use Rattle.h264_types.specs.FrameNumbers.{max_frame_num}
use Rattle.slice_header.specs.SliceHeaderSyntax.{reference_syntax, weights_of}
use Rattle.slice_header.specs.RefPicListModificationSyntax.{modification_syntax}
use Rattle.expgolomb.specs.Structures.{syntax_at}
use Rattle.slice_header.proofs.Refusals.{refuses_is, refuses_all}
use Rattle.expgolomb.proofs.Structures.{followed_by_at}
use Rattle.slice_header.proofs.headers.reference_part.Goals as goal

pub returns-in_err-prediction-clause-exact : goal.returns-in_err-prediction-clause-exact
unfolding reference_syntax syntax_at
returns-in_err-prediction-clause-exact c =
    let p = err_from_is_err_and c.from_residual.result c.from_residual.ensures.1 in
    let stop = c.in_err-prediction.ensures.exact in
    rw (p.1, p.2) (refuses_is c.in_err-prediction.field-0.0 (syntax_at (reference_syntax c.args.slice_type c.args.sps.now c.args.pps.now) c.args.bits.now)
    (rw stop refl))

pub returns-in_err-active-clause-exact : goal.returns-in_err-active-clause-exact
unfolding reference_syntax syntax_at
returns-in_err-active-clause-exact c =
    let p = err_from_is_err_and c.from_residual-in_err-active.result c.from_residual-in_err-active.ensures.1 in
    rw (p.1, p.2) (refuses_is c.in_err-active.field-0.0 (syntax_at (reference_syntax c.args.slice_type c.args.sps.now c.args.pps.now) c.args.bits.now)
    (rw (c.in_ok-prediction.ensures.exact, c.in_err-active.ensures.exact) refl))

pub returns-in_err-list0-clause-exact : goal.returns-in_err-list0-clause-exact
unfolding reference_syntax syntax_at
returns-in_err-list0-clause-exact c =
    let p = err_from_is_err_and c.from_residual-in_err-list0.result c.from_residual-in_err-list0.ensures.1 in
    rw (p.1, p.2) (refuses_all c.in_err-list0.field-0.0 (syntax_at (modification_syntax (has_list c.args.slice_type) c.in_ok-active.active.num_ref_idx_l0_active_minus1 (max_frame_num c.args.sps.now)) c.active_counts.new.bits) (syntax_at (reference_syntax c.args.slice_type c.args.sps.now c.args.pps.now) c.args.bits.now)
    (λ d is. rw (c.in_ok-prediction.ensures.exact, c.in_ok-active.ensures.exact, followed_by_at, is) refl)
    (rw (c.has_list.ensures, c.get-l0.ensures.value, c.max_frame_num-max_frame_num.ensures.value) at c.in_err-list0.ensures.exact))

pub returns-in_err-list1-clause-exact : goal.returns-in_err-list1-clause-exact
unfolding reference_syntax syntax_at
returns-in_err-list1-clause-exact c =
    let p = err_from_is_err_and c.from_residual-in_err-list1.result c.from_residual-in_err-list1.ensures.1 in
    let list0 = rw (c.has_list.ensures, c.get-l0.ensures.value, c.max_frame_num-max_frame_num.ensures.value) at c.in_ok-list0.ensures.exact in
    rw (p.1, p.2) (refuses_all c.in_err-list1.field-0.0 (syntax_at (modification_syntax (is_b c.args.slice_type) c.in_ok-active.active.num_ref_idx_l1_active_minus1 (max_frame_num c.args.sps.now)) c.ref_pic_list_modification.new.bits) (syntax_at (reference_syntax c.args.slice_type c.args.sps.now c.args.pps.now) c.args.bits.now)
    (λ d is. rw (c.in_ok-prediction.ensures.exact, c.in_ok-active.ensures.exact, followed_by_at, list0, followed_by_at, is) refl)
    (rw (c.is_b.ensures, c.get-l1.ensures.value, c.max_frame_num-max_frame_num.ensures.value) at c.in_err-list1.ensures.exact))

pub returns-in_err-weights-clause-exact : goal.returns-in_err-weights-clause-exact
unfolding reference_syntax syntax_at
returns-in_err-weights-clause-exact c =
    let p = err_from_is_err_and c.from_residual-in_err-weights.result c.from_residual-in_err-weights.ensures.1 in
    let list0 = rw (c.has_list.ensures, c.get-l0.ensures.value, c.max_frame_num-max_frame_num.ensures.value) at c.in_ok-list0.ensures.exact in
    let list1 = rw (c.is_b.ensures, c.get-l1.ensures.value, c.max_frame_num-max_frame_num.ensures.value) at c.in_ok-list1.ensures.exact in
    rw (p.1, p.2) (refuses_all c.in_err-weights.field-0.0 (syntax_at (weights_of c.args.slice_type c.in_ok-active.active.num_ref_idx_l0_active_minus1 c.in_ok-active.active.num_ref_idx_l1_active_minus1 c.args.sps.now c.args.pps.now) c.ref_pic_list_modification-2.new.bits) (syntax_at (reference_syntax c.args.slice_type c.args.sps.now c.args.pps.now) c.args.bits.now)
    (λ d is. rw (c.in_ok-prediction.ensures.exact, c.in_ok-active.ensures.exact, followed_by_at, list0, followed_by_at, list1, followed_by_at, is) refl)
    (rw (c.get-l0.ensures.value, c.get-l1.ensures.value) at c.in_err-weights.ensures.exact))

pub returns-clause-exact : goal.returns-clause-exact
unfolding reference_syntax syntax_at
returns-clause-exact c =
    let list0 = rw (c.has_list.ensures, c.get-l0.ensures.value, c.max_frame_num-max_frame_num.ensures.value) at c.in_ok-list0.ensures.exact in
    let list1 = rw (c.is_b.ensures, c.get-l1.ensures.value, c.max_frame_num-max_frame_num.ensures.value) at c.in_ok-list1.ensures.exact in
    let weights = rw (c.get-l0.ensures.value, c.get-l1.ensures.value) at c.in_ok-weights.ensures.exact in
    rw (c.in_ok-prediction.ensures.exact, c.in_ok-active.ensures.exact, followed_by_at, list0, followed_by_at, list1, followed_by_at, weights) refl
