use Rattle.std.proofs.Common.{rules, ◌≡◌, ◌==◌, length, true, false, sym, ◌∙◌, SFits, w32}
use Rattle.std.proofs.lemmas.Int.{to_z-of_z}
use Rattle.std.proofs.lemmas.Result.{err_from_is_err_and}
use Rattle.slice_decoding.specs.declared.ref_lists.initial_lists.ListOrder.TheVariants.{BelowFirst}
use Rattle.slice_decoding.proofs.RefListsPlaces.{IsDistinct-initial_list, IsDistinct-exchanged}
use Rattle.slice_decoding.proofs.SliceLists.{bad_0, bad_1, final_0, final_1, both-Err, both-Ok-Err, both-Ok, lists_of-tie, lists_of-b_none, lists_of-b}
use Rattle.h264_types.specs.PicOrderCnt.{pic_order_cnt}
use Rattle.slice_decoding.proofs.ref_lists.construction.b_lists.Goals as goal

pub returns-then-has_repeat : goal.returns-then-has_repeat
returns-then-has_repeat c =
    let fits : SFits w32 c.pic_order_cnt-pic_order_cnt.result = search rules in
    let tie = rw (c.deref.ensures.0, c.counts_with.ensures, to_z-of_z w32 c.pic_order_cnt-pic_order_cnt.result fits, c.pic_order_cnt-pic_order_cnt.ensures, c.frames-frames.ensures.value)
    at (sym c.has_repeat.ensures ∙ c.if-has_repeat.true) in
    sym (lists_of-tie c.args.marks.now c.args.sps.now c.args.header.now c.args.counts c.requires tie)

pub returns-then-is_empty : goal.returns-then-is_empty
returns-then-is_empty c =
    let fits : SFits w32 c.pic_order_cnt-pic_order_cnt.result = search rules in
    let apart = rw (c.deref.ensures.0, c.counts_with.ensures, to_z-of_z w32 c.pic_order_cnt-pic_order_cnt.result fits, c.pic_order_cnt-pic_order_cnt.ensures, c.frames-frames.ensures.value)
    at (sym c.has_repeat.ensures ∙ c.if-has_repeat.false) in
    let none : (length c.args.marks.now.frames == 0) ≡ true = search rules in
    sym (lists_of-b_none c.args.marks.now c.args.sps.now c.args.header.now c.args.counts c.requires apart none)

pub final_list-requires-clause-once : goal.final_list-requires-clause-once
final_list-requires-clause-once c =
    rw (c.deref-2.ensures.0, c.initial_list-initial_0.ensures) (IsDistinct-initial_list c.args.sps.now c.args.header.now.frame_num _ c.frames-frames.result.now)

pub returns-in_err-list_0 : goal.returns-in_err-list_0
returns-in_err-list_0 c =
    let marks = c.args.marks.now in
    let picture = c.pic_order_cnt-pic_order_cnt in
    let fits : SFits w32 c.pic_order_cnt-pic_order_cnt.result = search rules in
    let apart = rw (c.deref.ensures.0, c.counts_with.ensures, to_z-of_z w32 picture.result fits, picture.ensures, c.frames-frames.ensures.value)
    at (sym c.has_repeat.ensures ∙ c.if-has_repeat.false) in
    let some : (length c.args.marks.now.frames == 0) ≡ false = search rules in
    let fault = rw (c.deref-2.ensures.0, c.initial_list-initial_0.ensures, to_z-of_z w32 picture.result fits, picture.ensures, c.frames-frames.ensures.value)
    at (sym c.final_list.ensures ∙ c.in_err-list_0.was) in
    let passed = err_from_is_err_and c.from_residual.result c.from_residual.ensures.1 in
    rw (passed.1, passed.2) (sym (lists_of-b marks c.args.sps.now c.args.header.now c.args.counts c.requires apart some
    ∙ both-Err (final_0 marks c.args.sps.now c.args.header.now (BelowFirst (pic_order_cnt c.args.counts))) (final_1 marks c.args.sps.now c.args.header.now c.args.counts)
    (bad_0 marks c.args.sps.now c.args.header.now) (bad_1 marks c.args.sps.now c.args.header.now) c.in_err-list_0.field-0.0 fault))

pub final_list-requires-2-clause-once : goal.final_list-requires-2-clause-once
final_list-requires-2-clause-once c =
    rw (c.deref-3.ensures.0, c.exchange.ensures, c.initial_list-initial_1.ensures)
    (IsDistinct-exchanged c.initial_list-initial_0.result.items _ (IsDistinct-initial_list c.args.sps.now c.args.header.now.frame_num _ c.frames-frames.result.now))

pub returns-in_err-list_1 : goal.returns-in_err-list_1
returns-in_err-list_1 c =
    let marks = c.args.marks.now in
    let picture = c.pic_order_cnt-pic_order_cnt in
    let fits : SFits w32 c.pic_order_cnt-pic_order_cnt.result = search rules in
    let apart = rw (c.deref.ensures.0, c.counts_with.ensures, to_z-of_z w32 picture.result fits, picture.ensures, c.frames-frames.ensures.value)
    at (sym c.has_repeat.ensures ∙ c.if-has_repeat.false) in
    let some : (length c.args.marks.now.frames == 0) ≡ false = search rules in
    let list_0 = rw (c.deref-2.ensures.0, c.initial_list-initial_0.ensures, to_z-of_z w32 picture.result fits, picture.ensures, c.frames-frames.ensures.value)
    at (sym c.final_list.ensures ∙ c.in_ok-list_0.was) in
    let fault = rw (c.deref-3.ensures.0, c.exchange.ensures, c.initial_list-initial_0.ensures, c.initial_list-initial_1.ensures, to_z-of_z w32 picture.result fits, picture.ensures, c.frames-frames.ensures.value)
    at (sym c.final_list-2.ensures ∙ c.in_err-list_1.was) in
    let passed = err_from_is_err_and c.from_residual-in_err-list_1.result c.from_residual-in_err-list_1.ensures.1 in
    rw (passed.1, passed.2) (sym (lists_of-b marks c.args.sps.now c.args.header.now c.args.counts c.requires apart some
    ∙ both-Ok-Err (final_0 marks c.args.sps.now c.args.header.now (BelowFirst (pic_order_cnt c.args.counts))) (final_1 marks c.args.sps.now c.args.header.now c.args.counts)
    (bad_0 marks c.args.sps.now c.args.header.now) (bad_1 marks c.args.sps.now c.args.header.now) c.in_ok-list_0.list_0 c.in_err-list_1.field-0.0 list_0 fault))

pub returns : goal.returns
returns c =
    let marks = c.args.marks.now in
    let picture = c.pic_order_cnt-pic_order_cnt in
    let fits : SFits w32 c.pic_order_cnt-pic_order_cnt.result = search rules in
    let apart = rw (c.deref.ensures.0, c.counts_with.ensures, to_z-of_z w32 picture.result fits, picture.ensures, c.frames-frames.ensures.value)
    at (sym c.has_repeat.ensures ∙ c.if-has_repeat.false) in
    let some : (length c.args.marks.now.frames == 0) ≡ false = search rules in
    let list_0 = rw (c.deref-2.ensures.0, c.initial_list-initial_0.ensures, to_z-of_z w32 picture.result fits, picture.ensures, c.frames-frames.ensures.value)
    at (sym c.final_list.ensures ∙ c.in_ok-list_0.was) in
    let list_1 = rw (c.deref-3.ensures.0, c.exchange.ensures, c.initial_list-initial_0.ensures, c.initial_list-initial_1.ensures, to_z-of_z w32 picture.result fits, picture.ensures, c.frames-frames.ensures.value)
    at (sym c.final_list-2.ensures ∙ c.in_ok-list_1.was) in
    sym (lists_of-b marks c.args.sps.now c.args.header.now c.args.counts c.requires apart some
    ∙ both-Ok (final_0 marks c.args.sps.now c.args.header.now (BelowFirst (pic_order_cnt c.args.counts))) (final_1 marks c.args.sps.now c.args.header.now c.args.counts)
    (bad_0 marks c.args.sps.now c.args.header.now) (bad_1 marks c.args.sps.now c.args.header.now) c.in_ok-list_0.list_0 c.in_ok-list_1.list_1 list_0 list_1)
