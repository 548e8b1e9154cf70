use Rattle.worker_jobs.proofs.Firsts.{left_err, left_some, right_after}
use Rattle.worker_jobs.proofs.wanted.Wanted.take_first.Goals as goal

pub returns-in-Ok-Some : goal.returns-in-Ok-Some
returns-in-Ok-Some g c =
    let wants = c.args.self.now in
    left_some g.P.Decoded.IsOf c.args.session.now c.take_first_of.new.session c.numbers.result.0.now wants.waited wants.listed
    c.in-Ok-Some.field-0 c.in-Ok-Some.job c.numbers.ensures.waited c.in-Ok-Some.field-0-is c.in-Ok-Some.ensures

pub returns-in-Ok-None : goal.returns-in-Ok-None
returns-in-Ok-None g c =
    let wants = c.args.self.now in
    right_after g.P.Decoded.IsOf c.args.session.now c.take_first_of.new.session c.take_first_of-in-Ok-None.new.session
    c.numbers.result.0.now c.numbers.result.1.now wants.waited wants.listed c.in-Ok-None.field-0
    c.take_first_of-in-Ok-None.result c.numbers.ensures.waited c.numbers.ensures.listed c.in-Ok-None.field-0-is
    c.in-Ok-None.ensures c.take_first_of-in-Ok-None.ensures

pub returns-in-Err : goal.returns-in-Err
returns-in-Err g c =
    let wants = c.args.self.now in
    left_err g.P.Decoded.IsOf c.args.session.now c.take_first_of.new.session c.numbers.result.0.now wants.waited wants.listed
    c.in-Err.refused c.numbers.ensures.waited c.in-Err.ensures
