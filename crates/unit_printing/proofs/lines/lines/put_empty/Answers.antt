use Rattle.unit_printing.proofs.Appending.{more}
use Rattle.unit_printing.proofs.lines.lines.put_empty.Goals as goal

pub returns : goal.returns
returns c =
    let unit = rw (c.from.ensures, c.number.ensures) at c.in_ok-put_field.ensures in
    more unit c.in_ok-put_text.ensures
