use Rattle.stream_edits.specs.Journals.{edits_of}
use Rattle.stream_session.proofs.Accepted.{HasIds-reached}
use Rattle.stream_session.proofs.Ends.{end_stands}
use Rattle.stream_session.proofs.session.Session.end.Goals as goal

pub returns-clause-stands : goal.returns-clause-stands
returns-clause-stands g c =
    let machine = c.args.self.now in
    rw (c.end.ensures, c.last.ensures)
    (end_stands machine.register
    (HasIds-reached machine.origin (edits_of machine.journal) machine.register c.reached.ensures.based c.reached.ensures.replayed))
