use Rattle.std.proofs.Common.{Ok}
use Rattle.slice_header.proofs.HeaderLaws.{header_found, header_has, header_shows, header_shown}
use Rattle.slice_header.proofs.laws.one_header.Goals as goal

pub returns-clause-header : goal.returns-clause-header
returns-clause-header c unit sps pps header = (header_has unit sps pps header, header_found unit sps pps (Ok header))

pub returns-clause-fault : goal.returns-clause-fault
returns-clause-fault c unit sps pps fault = (header_shows unit sps pps fault, header_shown unit sps pps fault)
