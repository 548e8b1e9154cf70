use Rattle.std.proofs.Common.{◌∙◌, ap, rules, to_z-of_z, SFits, w64}
use Rattle.slice_decoding.specs.declared.ref_marking.fault.MarkFault.TheVariants.{BadMarking}
use Rattle.slice_decoding.specs.MarksAfter.{short_term_freed, without_at}
use Rattle.slice_decoding.proofs.Places.{short_term_left}
use Rattle.slice_decoding.proofs.StepLaws.{frees_short_term}
use Rattle.slice_decoding.proofs.ref_marking.operations.free_short_term.Goals as goal

pub returns-clause-exact : goal.returns-clause-exact
unfolding short_term_freed
returns-clause-exact c =
    let fits : SFits w64 c.pic_num_x-number.result = search rules in
    let place = simp to_z-of_z at c.short_term_place-place.ensures in
    c.take_out.ensures ∙ (ap (without_at BadMarking c.args.marks.now) place ∙ short_term_left BadMarking c.args.marks.now c.args.sps.now c.args.frame_num _ _ c.pic_num_x-number.ensures)

pub returns-clause-step : goal.returns-clause-step
returns-clause-step c = frees_short_term c.args.sps.now c.args.frame_num c.args.difference_of_pic_nums_minus1 c.args.marks.now _ (returns-clause-exact c)
