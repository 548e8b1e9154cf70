use Rattle.std.proofs.Common.{SFits, w32, rules}
use Rattle.std.proofs.lemmas.Int.{to_z-of_z}
use Rattle.unit_printing.proofs.Appending.{more}
use Rattle.unit_printing.proofs.lines.lines.put_counts.Goals as goal

pub returns : goal.returns
returns c =
    let top_fits : SFits w32 c.args.counts.top = search rules in
    let bottom_fits : SFits w32 c.args.counts.bottom = search rules in
    let top = simp to_z-of_z at c.in_ok-put_signed.ensures in
    let bottom = simp to_z-of_z at c.in_ok-put_signed-2.ensures in
    more c.in_ok-put_text.ensures (more top (more c.in_ok-put_text-2.ensures
    (more bottom (more c.in_ok-put_field.ensures c.in_ok-put_text-3.ensures))))
