use Rattle.stream_session.proofs.ByNumber.{input_same}
use Rattle.stream_session.proofs.session.Session.job_input.Goals as goal

pub returns-clause-value : goal.returns-clause-value
returns-clause-value g c =
    rw (← c.self.view_is, input_same c.self.inside.store.jobs_out c.args.number) c.job_input.ensures.value
