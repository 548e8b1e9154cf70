use Rattle.std.proofs.Common.{◌≡◌, if◌then◌else◌, rules}
use Rattle.unit_printing.proofs.Appending.{more}
use Rattle.unit_printing.proofs.lines.requests.put_hold.Goals as goal

pub returns : goal.returns
returns c =
    let holds : c.from.result ≡ (if c.args.hold then 1 else 0) = search rules in
    let hold = rw holds at c.in_ok-put_field.ensures in
    more hold c.in_ok-put_text.ensures
