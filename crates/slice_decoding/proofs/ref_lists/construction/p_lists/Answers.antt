use Rattle.std.proofs.Common.{rules, ◌≡◌, ◌==◌, length, true, false, [], refl, sym, ◌∙◌}
use Rattle.std.proofs.lemmas.Result.{err_from_is_err_and}
use Rattle.slice_decoding.specs.declared.ref_lists.initial_lists.ListOrder.TheVariants.{ByPicNum}
use Rattle.slice_decoding.proofs.RefListsPlaces.{IsDistinct-initial_list}
use Rattle.slice_decoding.proofs.SliceLists.{bad_0, final_0, both-Err, both-Ok, lists_of-p, lists_of-p_none}
use Rattle.slice_decoding.proofs.ref_lists.construction.p_lists.Goals as goal

pub returns-then-is_empty : goal.returns-then-is_empty
returns-then-is_empty c counts =
    let none : (length c.args.marks.now.frames == 0) ≡ true = search rules in
    sym (lists_of-p_none c.args.marks.now c.args.sps.now c.args.header.now counts c.requires.has_list_0 c.requires.lacks_list_1 none)

pub final_list-requires-clause-once : goal.final_list-requires-clause-once
final_list-requires-clause-once c =
    rw (c.deref.ensures.0, c.initial_list-initial.ensures) (IsDistinct-initial_list c.args.sps.now c.args.header.now.frame_num ByPicNum c.frames-references.result.now)

pub returns-in_err-list_0 : goal.returns-in_err-list_0
returns-in_err-list_0 c counts =
    let marks = c.args.marks.now in
    let some : (length c.args.marks.now.frames == 0) ≡ false = search rules in
    let fault = rw (c.deref.ensures.0, c.initial_list-initial.ensures, c.frames-references.ensures.value) at (sym c.final_list.ensures ∙ c.in_err-list_0.was) in
    let passed = err_from_is_err_and c.from_residual.result c.from_residual.ensures.1 in
    rw (passed.1, passed.2) (sym (lists_of-p marks c.args.sps.now c.args.header.now counts c.requires.has_list_0 c.requires.lacks_list_1 some
    ∙ both-Err (final_0 marks c.args.sps.now c.args.header.now ByPicNum) [] (bad_0 marks c.args.sps.now c.args.header.now) false c.in_err-list_0.field-0.0 fault))

pub returns : goal.returns
returns c counts =
    let marks = c.args.marks.now in
    let some : (length c.args.marks.now.frames == 0) ≡ false = search rules in
    let list_0 = rw (c.deref.ensures.0, c.initial_list-initial.ensures, c.frames-references.ensures.value) at (sym c.final_list.ensures ∙ c.in_ok-list_0.was) in
    rw c.new.ensures (sym (lists_of-p marks c.args.sps.now c.args.header.now counts c.requires.has_list_0 c.requires.lacks_list_1 some
    ∙ both-Ok (final_0 marks c.args.sps.now c.args.header.now ByPicNum) [] (bad_0 marks c.args.sps.now c.args.header.now) false c.in_ok-list_0.list_0 [] list_0 refl))
