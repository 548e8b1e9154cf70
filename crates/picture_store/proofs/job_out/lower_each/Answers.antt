use Rattle.std.proofs.lemmas.List.Edits.{map_over_more}
use Rattle.picture_store.specs.Looked.{lowered}
use Rattle.picture_store.proofs.job_out.lower_each.Goals as goal

pub loop-job-preserved : goal.loop-job-preserved
loop-job-preserved g c =
    rw (c.min-job.ensures, ← c.job-item.is)
    (map_over_more (lowered c.args.from) c.args.jobs.now c.loop-job.jobs c.loop-job.job-index c.job-item.result c.loop-job-test.true
    c.loop-job.invariant c.job-item.is)
