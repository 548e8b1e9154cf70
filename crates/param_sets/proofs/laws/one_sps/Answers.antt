use Rattle.param_sets.proofs.SpsLaws.{sps_found, sps_only, sps_fault, sps_refused}
use Rattle.param_sets.proofs.laws.one_sps.Goals as goal

pub returns-clause-set : goal.returns-clause-set
returns-clause-set c payload set = (sps_only payload set, sps_found payload set)

pub returns-clause-fault : goal.returns-clause-fault
returns-clause-fault c payload fault = (sps_refused payload fault, sps_fault payload fault)
