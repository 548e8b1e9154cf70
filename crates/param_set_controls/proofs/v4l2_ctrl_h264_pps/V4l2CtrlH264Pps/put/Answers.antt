-- The members are read as they stand, and appending is associative.
use Rattle.std.proofs.Common.{arith, ◌≡◌, append_assoc}
use Rattle.std.specs.Int.{w8, cast_unsigned}
use Rattle.std.proofs.lemmas.Int.{to_z-of_z}
use Rattle.param_set_controls.specs.PpsForm.{pps_form}
use Rattle.param_set_controls.proofs.v4l2_ctrl_h264_pps.V4l2CtrlH264Pps.put.Goals as goal

pub returns-clause-items : goal.returns-clause-items
unfolding pps_form
returns-clause-items c =
    let qp : c.cast_unsigned.result ≡ cast_unsigned w8 c.args.self.now.pic_init_qp_minus26 = grind (arith, to_z-of_z) in
    let qs : c.cast_unsigned-2.result ≡ cast_unsigned w8 c.args.self.now.pic_init_qs_minus26 = grind (arith, to_z-of_z) in
    let first : c.cast_unsigned-3.result ≡ cast_unsigned w8 c.args.self.now.chroma_qp_index_offset = grind (arith, to_z-of_z) in
    let second : c.cast_unsigned-4.result ≡ cast_unsigned w8 c.args.self.now.second_chroma_qp_index_offset = grind (arith, to_z-of_z) in
    rw (c.put_u16.ensures.items, c.put.ensures.items, c.number.ensures, c.weighted_bipred_number.ensures, qp, qs, first, second)
    (simp append_assoc)
