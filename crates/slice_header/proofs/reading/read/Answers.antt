use Rattle.slice_header.proofs.HeaderLaws.{header_found, header_only, header_fault, header_refused}
use Rattle.slice_header.proofs.reading.read.Goals as goal

pub returns-clause-found : goal.returns-clause-found
returns-clause-found c = header_found c.args.nal.now c.args.sps.now c.args.pps.now c.read_from.result (rw c.of.ensures at c.read_from.ensures)

pub returns-clause-only : goal.returns-clause-only
returns-clause-only c = header_only c.args.nal.now c.args.sps.now c.args.pps.now c.read_from.result (rw c.of.ensures at c.read_from.ensures)

pub returns-clause-fault : goal.returns-clause-fault
returns-clause-fault c = header_fault c.args.nal.now c.args.sps.now c.args.pps.now c.read_from.result (rw c.of.ensures at c.read_from.ensures)

pub returns-clause-refused : goal.returns-clause-refused
returns-clause-refused c = header_refused c.args.nal.now c.args.sps.now c.args.pps.now c.read_from.result (rw c.of.ensures at c.read_from.ensures)
