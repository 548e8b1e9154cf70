use Rattle.worker_jobs.specs.Wanted.{urgent}
use Rattle.worker_jobs.proofs.Kept.{first_kept}
use Rattle.worker_jobs.proofs.worker_queue.WorkerQueue.take_first_in.Goals as goal

pub returns : goal.returns
returns g c =
    first_kept c.args.session.now c.take_first-answer.new.session (urgent c.args.wanted.now) c.args.self.now
    c.reserve.new.self c.keep.new.self c.take_first-answer.result c.keep.result c.reserve.ensures.same
    c.take_first-answer.ensures c.keep.ensures
