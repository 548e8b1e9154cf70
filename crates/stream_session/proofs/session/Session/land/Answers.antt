use Rattle.stream_session.proofs.Pictured.{IsStoreOf-kept, land_seen}
use Rattle.stream_session.proofs.session.Session.land.Goals as goal

pub returns : goal.returns
returns g c =
    rw (← c.self.view_is)
    (land_seen g.P.Decoded.IsDecoded (record { origin = c.self.inside.origin; entries = c.self.inside.journal.items }) (record { ids_given = c.self.inside.ids_given; stream = c.self.inside.ordered.folded.stream }) c.self.inside.store c.land.new.self
    (IsStoreOf-kept (record { origin = c.self.inside.origin; entries = c.self.inside.journal.items }) (record { ids_given = c.self.inside.ids_given; stream = c.self.inside.ordered.folded.stream }) c.self.inside.store c.self.invariant) c.args.finished c.land.result c.land.ensures)
