use Rattle.unit_printing.proofs.Appending.{more}
use Rattle.unit_printing.proofs.lines.requests.put_slice.Goals as goal

pub returns : goal.returns
returns c =
    let bits = rw c.from.ensures at c.in_ok-put_field-3.ensures in
    let slice_type = rw c.type_number.ensures at c.in_ok-put_field-4.ensures in
    let frame = rw c.from-2.ensures at c.in_ok-put_field-5.ensures in
    more c.in_ok-put_field.ensures (more c.in_ok-put_field-2.ensures (more bits (more slice_type frame)))
