use Rattle.slice_header.proofs.FrontLaws.{front_found, front_only, front_fault, front_refused}
use Rattle.slice_header.proofs.front_laws.one_front.Goals as goal

pub returns-clause-front : goal.returns-clause-front
returns-clause-front c unit front = (front_only unit front, front_found unit front)

pub returns-clause-fault : goal.returns-clause-fault
returns-clause-fault c unit fault = (front_refused unit fault, front_fault unit fault)
