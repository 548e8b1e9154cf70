use Rattle.unit_printing.proofs.Appending.{as_well, more}
use Rattle.unit_printing.proofs.RequestLines.{request_parts}
use Rattle.unit_printing.proofs.lines.requests.put_request.Goals as goal

pub returns : goal.returns
returns c =
    let unit = rw (c.from.ensures, c.number.ensures) at c.in_ok-put_field.ensures in
    let slice = rw (c.deref-3.ensures, c.controls-controls.ensures) at c.in_ok-put_slice.ensures in
    let dpb = rw (c.as_slice-units.ensures, c.deref.ensures, c.as_slice-entries.ensures.value, c.deref-2.ensures, c.controls-controls.ensures) at c.in_ok-put_dpb.ensures in
    let lists = rw (c.entries.ensures.value, c.entries-2.ensures.value, c.controls-controls.ensures) at c.in_ok-put_lists.ensures in
    as_well (request_parts c.args.id c.args.slice c.args.request.now)
    (more unit (more slice (more c.in_ok-put_text.ensures (more dpb (more lists c.in_ok-put_hold.ensures)))))
