use Rattle.std.proofs.Common.{Bool, subst}
use Rattle.serve_requests.specs.Messages.{parts_of}
use Rattle.serve_requests.specs.Requests.{IsRequestAnswer, called}
use Rattle.serve_calls.specs.Requests.{IsServedBy}
use Rattle.serve_calls.proofs.server.Server.serve_request.Goals as goal

pub returns-clause-serves : goal.returns-clause-serves
returns-clause-serves g c =
    let call = c.call-call.result in
    let offers = g.B.Backend.offers c.args.self.now.backend in (
      call,
      subst (λ (has_journal : Bool). IsRequestAnswer (called offers.jobs has_journal (parts_of c.args.request.now)) call)
          c.has_journal-has_journal.ensures
          (subst (λ (has_jobs : Bool). IsRequestAnswer (called has_jobs c.has_journal-has_journal.result (parts_of c.args.request.now)) call)
          c.has_jobs-has_jobs.ensures c.call-call.ensures),
      subst (λ (answered : Bool). IsServedBy g.B.LendsSession.is_session g.B.Backend.offers g.S.Source.file c.args.self.now
          c.args.wanted.now.items answered call c.serve_call.result c.serve_call.new.self c.serve_call.new.wanted.items)
          c.is_answered.ensures c.serve_call.ensures.serves,
    )

pub returns-clause-recorded : goal.returns-clause-recorded
returns-clause-recorded g c =
    let call = c.call-call.result in
    let offers = g.B.Backend.offers c.args.self.now.backend in (
      call,
      subst (λ (has_journal : Bool). IsRequestAnswer (called offers.jobs has_journal (parts_of c.args.request.now)) call)
          c.has_journal-has_journal.ensures
          (subst (λ (has_jobs : Bool). IsRequestAnswer (called has_jobs c.has_journal-has_journal.result (parts_of c.args.request.now)) call)
          c.has_jobs-has_jobs.ensures c.call-call.ensures),
      c.serve_call.ensures.recorded,
    )
