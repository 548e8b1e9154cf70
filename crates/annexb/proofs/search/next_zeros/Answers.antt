use Rattle.annexb.proofs.Scans.{scanned_to_zeros, MayEnd_at_zeros, scanned_to_end}
use Rattle.annexb.proofs.search.next_zeros.Goals as goal

pub returns-in-Some-clause-scanned : goal.returns-in-Some-clause-scanned
returns-in-Some-clause-scanned c = scanned_to_zeros c.args.bytes.now c.args.from c.requires c.in-Some.ahead (rw c.split_at.ensures.back at c.in-Some.ensures)

pub returns-in-Some-clause-zeros : goal.returns-in-Some-clause-zeros
returns-in-Some-clause-zeros c = MayEnd_at_zeros c.args.bytes.now c.args.from c.requires c.in-Some.ahead (rw c.split_at.ensures.back at c.in-Some.ensures)

pub returns-in-None-clause-scanned : goal.returns-in-None-clause-scanned
returns-in-None-clause-scanned c = scanned_to_end c.args.bytes.now c.args.from c.requires c.len_without_zero.result (rw c.split_at.ensures.back at c.in-None.ensures) c.len_without_zero.ensures
