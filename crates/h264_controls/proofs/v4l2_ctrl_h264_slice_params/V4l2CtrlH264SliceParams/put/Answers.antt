-- The members are read as they stand, and appending is associative.
use Rattle.std.proofs.Common.{arith, ◌≡◌, append_assoc}
use Rattle.std.specs.Int.{w8, cast_unsigned}
use Rattle.std.proofs.lemmas.Int.{to_z-of_z}
use Rattle.h264_controls.specs.SliceParamsForm.{slice_params_form}
use Rattle.h264_controls.proofs.v4l2_ctrl_h264_slice_params.V4l2CtrlH264SliceParams.put.Goals as goal

pub returns-clause-items : goal.returns-clause-items
unfolding slice_params_form
returns-clause-items c =
    let qp : c.cast_unsigned.result ≡ cast_unsigned w8 c.args.self.now.slice_qp_delta = grind (arith, to_z-of_z) in
    let qs : c.cast_unsigned-2.result ≡ cast_unsigned w8 c.args.self.now.slice_qs_delta = grind (arith, to_z-of_z) in
    let alpha : c.cast_unsigned-3.result ≡ cast_unsigned w8 c.args.self.now.slice_alpha_c0_offset_div2 = grind (arith, to_z-of_z) in
    let beta : c.cast_unsigned-4.result ≡ cast_unsigned w8 c.args.self.now.slice_beta_offset_div2 = grind (arith, to_z-of_z) in
    rw (c.put_u32-3.ensures.items, c.number.ensures, c.put_list-2.ensures.items, c.put_list.ensures.items, c.put.ensures.items)
    (rw (c.put_u32-2.ensures.items, c.put_u32.ensures.items, c.slice_type_number.ensures, qp, qs, alpha, beta)
    (simp append_assoc))
