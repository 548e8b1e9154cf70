use Rattle.unit_printing.proofs.Appending.{more}
use Rattle.unit_printing.proofs.lines.lines.put_fault.Goals as goal

pub returns : goal.returns
returns c =
    let unit = rw (c.from.ensures, c.number.ensures) at c.in_ok-put_field.ensures in
    let number = rw (c.from-2.ensures, c.number-2.ensures) at c.in_ok-put_field-2.ensures in
    let name = rw c.name.ensures at c.in_ok-put_text-2.ensures in
    more unit (more number (more c.in_ok-put_text.ensures (more name c.in_ok-put_text-3.ensures)))
