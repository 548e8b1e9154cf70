use Rattle.stand_in_device.proofs.Queueing.{queued_up}
use Rattle.stand_in_device.proofs.decoding.queue_slice.Goals as goal

pub returns-clause-waits : goal.returns-clause-waits
returns-clause-waits c =
    let set = rw (c.in_ok-clone.ensures.cases, c.in_ok-clone-2.ensures.cases) at c.in-Ok.ensures in
    let out = rw (c.in_ok-bytes.ensures.cases, c.bytes.ensures) at c.in-Ok-queue_output.ensures in
    queued_up c.args.queues.now c.set_controls.new.self c.queue_output.new.self c.queue_request.new.self c.args.request.0 c.args.slice.now
    c.requires set out c.in-Ok-queue_request.ensures
