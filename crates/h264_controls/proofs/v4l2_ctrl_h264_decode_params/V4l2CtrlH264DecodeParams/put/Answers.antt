-- The members are read as they stand, and appending is associative.
use Rattle.std.proofs.Common.{arith, ◌≡◌, ◌++◌, append_assoc}
use Rattle.std.proofs.lemmas.Int.{to_z-of_z}
use Rattle.param_set_controls.specs.Words.{s32}
use Rattle.h264_controls.specs.DecodeParamsForm.{decode_params_form}
use Rattle.h264_controls.proofs.v4l2_ctrl_h264_decode_params.V4l2CtrlH264DecodeParams.put.Goals as goal

pub returns-clause-items : goal.returns-clause-items
unfolding decode_params_form
returns-clause-items c =
    let top : c.put_s32.new.form.items ≡ c.put_u16-2.new.form.items ++ s32 c.args.self.now.top_field_order_cnt = grind (arith, to_z-of_z) in
    let bottom : c.put_s32-2.new.form.items ≡ c.put_s32.new.form.items ++ s32 c.args.self.now.bottom_field_order_cnt = grind (arith, to_z-of_z) in
    let delta_bottom : c.put_s32-3.new.form.items ≡ c.put_u16-4.new.form.items ++ s32 c.args.self.now.delta_pic_order_cnt_bottom = grind (arith, to_z-of_z) in
    let delta0 : c.put_s32-4.new.form.items ≡ c.put_s32-3.new.form.items ++ s32 c.args.self.now.delta_pic_order_cnt0 = grind (arith, to_z-of_z) in
    let delta1 : c.put_s32-5.new.form.items ≡ c.put_s32-4.new.form.items ++ s32 c.args.self.now.delta_pic_order_cnt1 = grind (arith, to_z-of_z) in
    rw (c.put_u32-4.ensures.items, c.number.ensures, c.put_u32-3.ensures.items, c.from.ensures, c.put_u32-2.ensures.items, c.put_u32.ensures.items)
    (rw (delta1, delta0, delta_bottom, c.put_u16-4.ensures.items, c.put_u16-3.ensures.items, bottom, top)
    (rw (c.put_u16-2.ensures.items, c.put_u16.ensures.items, c.put_dpb.ensures.items)
    (simp append_assoc)))
