use Rattle.std.proofs.Common.{rules, arith}
use Rattle.std.proofs.lemmas.Grind.{common_steps}
use Rattle.stand_in_device.proofs.Waiting.{room_for_another}
use Rattle.stand_in_device.proofs.m2m_queues.queues.Queues.queue_request.Goals as goal

pub push-requires : goal.push-requires
push-requires g c =
    let room = room_for_another c.self.inside.requests c.self.inside.order.items c.args.request.0 c.in-Some.waiting.now c.self.invariant (grind (arith, common_steps)) (search rules) in
    (omega arith, room)
