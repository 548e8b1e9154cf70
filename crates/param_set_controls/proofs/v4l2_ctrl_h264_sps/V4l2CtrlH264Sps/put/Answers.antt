-- The members are read as they stand, and appending is associative.
use Rattle.std.proofs.Common.{arith, ◌≡◌, ◌++◌, append_assoc}
use Rattle.std.proofs.lemmas.Int.{to_z-of_z}
use Rattle.param_set_controls.specs.Words.{s32}
use Rattle.param_set_controls.specs.SpsForm.{sps_form}
use Rattle.param_set_controls.proofs.v4l2_ctrl_h264_sps.V4l2CtrlH264Sps.put.Goals as goal

pub returns-clause-items : goal.returns-clause-items
unfolding sps_form
returns-clause-items c =
    let non_ref : c.put_s32.new.form.items ≡ c.put_s32s.new.form.items ++ s32 c.args.self.now.offset_for_non_ref_pic = grind (arith, to_z-of_z) in
    let bottom : c.put_s32-2.new.form.items ≡ c.put_s32.new.form.items ++ s32 c.args.self.now.offset_for_top_to_bottom_field = grind (arith, to_z-of_z) in
    rw (c.put_u32.ensures.items, c.number.ensures, c.put_u16-2.ensures.items, c.put_u16.ensures.items, bottom, non_ref, c.put_s32s.ensures.items, c.put.ensures.items)
    (rw (c.constraint_set_number.ensures, c.chroma_format_number.ensures, c.pic_order_cnt_type_number.ensures)
    (simp append_assoc))
