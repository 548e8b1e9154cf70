use Rattle.std.proofs.Common.{Ok, Err}
use Rattle.param_sets.specs.Sets.{IsSps, SpsHasFault, sps_at}
use Rattle.param_sets.proofs.SetLaws.{found_by, shown_by, only_by}
use Rattle.param_sets.proofs.SpsLaws.{sps_found, sps_only, sps_fault, sps_refused}
use Rattle.param_sets.proofs.seq_parameter_set.read_sps.Goals as goal

pub returns-clause-found : goal.returns-clause-found
returns-clause-found c =
    let payload = c.args.payload.now in
    found_by c.sps_of.result (sps_at payload) (IsSps payload) c.sps_of.ensures (sps_found payload)

pub returns-clause-only : goal.returns-clause-only
returns-clause-only c set is =
    let payload = c.args.payload.now in
    only_by c.sps_of.result (sps_at payload) (Ok set) c.sps_of.ensures (sps_only payload set is)

pub returns-clause-shown : goal.returns-clause-shown
returns-clause-shown c =
    let payload = c.args.payload.now in
    shown_by c.sps_of.result (sps_at payload) (SpsHasFault payload) c.sps_of.ensures (sps_fault payload)

pub returns-clause-refused : goal.returns-clause-refused
returns-clause-refused c fault has =
    let payload = c.args.payload.now in
    only_by c.sps_of.result (sps_at payload) (Err fault) c.sps_of.ensures (sps_refused payload fault has)
