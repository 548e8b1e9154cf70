use Rattle.slice_header.proofs.FrontLaws.{read_found, read_shown}
use Rattle.slice_header.proofs.front.peek.Goals as goal

pub returns-clause-found : goal.returns-clause-found
returns-clause-found c = read_found c.args.nal.now c.peek_start.result (rw c.of.ensures at c.peek_start.ensures)

pub returns-clause-shown : goal.returns-clause-shown
returns-clause-shown c = read_shown c.args.nal.now c.peek_start.result (rw c.of.ensures at c.peek_start.ensures)
