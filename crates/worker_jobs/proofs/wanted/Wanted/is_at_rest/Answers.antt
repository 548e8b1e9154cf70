use Rattle.std.proofs.Common.{◌≡◌, false, length, sym, ◌∙◌, arith}
use Rattle.worker_jobs.proofs.Firsts.{goes_on, rests}
use Rattle.worker_jobs.proofs.wanted.Wanted.is_at_rest.Goals as goal

pub returns-then-are_settled : goal.returns-then-are_settled
returns-then-are_settled g c =
    let wants = c.args.self.now in
    let off : wants.rest ≡ false = sym c.is_rest_wanted.ensures ∙ c.if-is_rest_wanted.false in
    let out : length c.args.session.now.jobs_out ≡ 0 = omega (arith, c.jobs_out.ensures) in
    rests g.P.Decoded.IsOf c.args.session.now wants c.numbers.result.0.now c.numbers.result.1.now c.are_settled-then-are_settled.result
    c.numbers.ensures.waited c.numbers.ensures.listed off out c.if-are_settled.ensures
    c.are_settled-then-are_settled.ensures

pub returns-else-are_settled : goal.returns-else-are_settled
returns-else-are_settled g c =
    goes_on g.P.Decoded.IsOf c.args.session.now c.args.self.now c.numbers.result.0.now c.are_settled.result c.numbers.ensures.waited
    c.if-are_settled.false c.if-are_settled.ensures
