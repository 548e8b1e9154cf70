use Rattle.worker_jobs.proofs.Kept.{take_kept}
use Rattle.worker_jobs.proofs.worker_queue.WorkerQueue.take_in.Goals as goal

pub returns : goal.returns
returns g c =
    take_kept c.args.session.now c.take-answer.new.self c.args.self.now c.reserve.new.self c.keep.new.self
    c.take-answer.result c.keep.result c.reserve.ensures.same c.take-answer.ensures.answers c.keep.ensures
