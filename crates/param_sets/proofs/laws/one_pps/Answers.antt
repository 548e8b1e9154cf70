use Rattle.param_sets.proofs.PpsLaws.{pps_found, pps_only, pps_fault, pps_refused}
use Rattle.param_sets.proofs.laws.one_pps.Goals as goal

pub returns-clause-set : goal.returns-clause-set
returns-clause-set c payload set = (pps_only payload set, pps_found payload set)

pub returns-clause-fault : goal.returns-clause-fault
returns-clause-fault c payload fault = (pps_refused payload fault, pps_fault payload fault)
