use Rattle.std.proofs.Common.{Ok, Err}
use Rattle.param_sets.specs.Sets.{IsPps, PpsHasFault, pps_at}
use Rattle.param_sets.proofs.SetLaws.{found_by, shown_by, only_by}
use Rattle.param_sets.proofs.PpsLaws.{pps_found, pps_only, pps_fault, pps_refused}
use Rattle.param_sets.proofs.pic_parameter_set.read_pps.Goals as goal

pub returns-clause-found : goal.returns-clause-found
returns-clause-found c =
    let payload = c.args.payload.now in
    found_by c.pps_of.result (pps_at payload) (IsPps payload) c.pps_of.ensures (pps_found payload)

pub returns-clause-only : goal.returns-clause-only
returns-clause-only c set is =
    let payload = c.args.payload.now in
    only_by c.pps_of.result (pps_at payload) (Ok set) c.pps_of.ensures (pps_only payload set is)

pub returns-clause-shown : goal.returns-clause-shown
returns-clause-shown c =
    let payload = c.args.payload.now in
    shown_by c.pps_of.result (pps_at payload) (PpsHasFault payload) c.pps_of.ensures (pps_fault payload)

pub returns-clause-refused : goal.returns-clause-refused
returns-clause-refused c fault has =
    let payload = c.args.payload.now in
    only_by c.pps_of.result (pps_at payload) (Err fault) c.pps_of.ensures (pps_refused payload fault has)
