use Rattle.std.proofs.Common.{◌∙◌, ap}
use Rattle.slice_decoding.specs.declared.ref_marking.fault.MarkFault.TheVariants.{BadMarking}
use Rattle.slice_decoding.specs.MarksAfter.{long_term_freed, without_at, has_long_term_pic_num}
use Rattle.slice_decoding.proofs.Places.{without_first}
use Rattle.slice_decoding.proofs.StepLaws.{frees_long_term}
use Rattle.slice_decoding.proofs.ref_marking.operations.free_long_term.Goals as goal

pub returns-clause-exact : goal.returns-clause-exact
unfolding long_term_freed
returns-clause-exact c =
    c.take_out.ensures ∙ (ap (without_at BadMarking c.args.marks.now) c.long_term_place-place.ensures ∙ without_first BadMarking c.args.marks.now (has_long_term_pic_num c.args.long_term_pic_num))

pub returns-clause-step : goal.returns-clause-step
returns-clause-step c = frees_long_term c.args.long_term_pic_num c.args.marks.now _ (returns-clause-exact c)
