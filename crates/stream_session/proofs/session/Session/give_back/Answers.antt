use Rattle.stream_session.proofs.Pictured.{IsStoreOf-kept, give_back_seen}
use Rattle.stream_session.proofs.session.Session.give_back.Goals as goal

pub returns : goal.returns
returns g c =
    rw (← c.self.view_is)
    (give_back_seen (record { origin = c.self.inside.origin; entries = c.self.inside.journal.items }) (record { ids_given = c.self.inside.ids_given; stream = c.self.inside.ordered.folded.stream }) c.self.inside.store c.give_back.new.self
    (IsStoreOf-kept (record { origin = c.self.inside.origin; entries = c.self.inside.journal.items }) (record { ids_given = c.self.inside.ids_given; stream = c.self.inside.ordered.folded.stream }) c.self.inside.store c.self.invariant) c.args.job c.give_back.result c.give_back.ensures)
