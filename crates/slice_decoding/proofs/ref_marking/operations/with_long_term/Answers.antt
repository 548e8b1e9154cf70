use Rattle.std.proofs.Common.{rules, ap, Ok, ◌<◌, length, Result}
use Rattle.slice_decoding.specs.declared.ref_marking.fault.MarkFault.{MarkFault}
use Rattle.h264_types.specs.MarkedFrames.{Marked}
use Rattle.slice_decoding.proofs.Filters.{written_is}
use Rattle.slice_decoding.proofs.ref_marking.operations.with_long_term.Goals as goal

pub returns-clause-none : goal.returns-clause-none
returns-clause-none c = let is = c.in_ok-at.ensures.ok_part in rw is (λ none. cc)

pub returns-clause-some : goal.returns-clause-some
returns-clause-some c other =
    let is = c.in_ok-at.ensures.ok_part in
    let within : c.in_ok-at.at < length c.marks.inside.frames.items = search rules in
    rw (is, ← c.marks.view_is) (let made : Marked → Result Marked MarkFault = λ m. Ok m in
    ap made (written_is c.marks.inside.frames.items c.as_mut_slice.result.now c.in_ok-at.at c.index-as_mut_slice-at.result other c.args.long_term_frame_idx c.marks.inside.max_long_term_frame_idx c.as_mut_slice.ensures.value within))
