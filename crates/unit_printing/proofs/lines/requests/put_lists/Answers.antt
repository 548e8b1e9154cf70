use Rattle.unit_printing.proofs.Appending.{more}
use Rattle.unit_printing.proofs.lines.requests.put_lists.Goals as goal

pub returns : goal.returns
returns c =
    more c.in_ok-put_text.ensures (more c.in_ok-put_list.ensures (more c.in_ok-put_text-2.ensures c.in_ok-put_list-2.ensures))
