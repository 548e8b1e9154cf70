use Rattle.std.proofs.Common.{arith, inl, refl}
use Rattle.serve_calls.proofs.Replayed.{nothing-left, steps-onto}
use Rattle.serve_calls.proofs.replaying.Server+Journaled+B+K+S.replay_steps.Goals as goal

pub returns-in-Some : goal.returns-in-Some
returns-in-Some g c =
    steps-onto g.B.LendsSession.is_session g.K.Records.stands g.K.Records.ends c.args.self.now c.replay_onto.new.self c.args.journal
    c.args.steps.items c.pop.new.self.items c.in-Some.last c.replay_onto.result c.in-Some.ensures.items c.replay_onto.ensures

pub returns-in-None : goal.returns-in-None
returns-in-None g c =
    inl (nothing-left c.args.steps.items (omega (arith, c.in-None.ensures.cases, c.args.steps.ok.0)), refl, refl)
