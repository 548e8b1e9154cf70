use Rattle.std.proofs.Common.{◌++◌, append_assoc}
use Rattle.draw_run.specs.Lists.{named_by}
use Rattle.stream_svg.specs.declared.unit.RefList.TheVariants as lists
use Rattle.draw_run.proofs.unit_drawing.lists.add_slice.Goals as goal

pub returns : goal.returns
returns c = λ before are.
    let request = c.args.request.now in
    let params = request.body.controls.slice_params in
    let first = named_by request lists.Zero params.ref_pic_list0 in
    let second = named_by request lists.One params.ref_pic_list1 in
    let zero = rw (c.entries.ensures.value, c.controls.ensures) at (c.in_ok-add_list.ensures before are) in
    rw (← append_assoc before first second)
    (rw (c.entries-2.ensures.value, c.controls.ensures) at (c.in_ok-add_list-2.ensures (before ++ first) zero))
