use Rattle.std.proofs.Common.{rules, to_z-of_z, SFits, w64}
use Rattle.slice_decoding.specs.MarksAfter.{long_term_assigned}
use Rattle.slice_decoding.proofs.Places.{allowed_is, assigned_to}
use Rattle.slice_decoding.proofs.StepLaws.{assigns_long_term}
use Rattle.slice_decoding.proofs.ref_marking.operations.assign_long_term.Goals as goal

pub returns-clause-exact : goal.returns-clause-exact
unfolding long_term_assigned
returns-clause-exact c =
    let fits : SFits w64 c.pic_num_x-number.result = search rules in
    let place = simp to_z-of_z at c.short_term_place-place.ensures in
    let allowed = allowed_is _ _ _ _ c.in_ok-long_term_frame_idx.ensures in
    rw allowed.0 (assigned_to c.args.sps.now c.args.frame_num _ _ _ _ c.args.marks.now _ _ _ c.pic_num_x-number.ensures allowed.1 c.take_out_long_term.ensures place c.with_long_term.ensures.none c.with_long_term.ensures.some)

pub returns-clause-step : goal.returns-clause-step
returns-clause-step c = assigns_long_term c.args.sps.now c.args.frame_num c.args.difference_of_pic_nums_minus1 c.args.long_term_frame_idx c.args.marks.now _ (returns-clause-exact c)
