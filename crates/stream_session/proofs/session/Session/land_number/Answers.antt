use Rattle.stream_session.proofs.ByNumber.{input_same}
use Rattle.stream_session.proofs.Pictured.{IsStoreOf-kept, land_of_seen}
use Rattle.stream_session.proofs.session.Session.land_number.Goals as goal

pub land_number-requires : goal.land_number-requires
land_number-requires g c =
    rw (← input_same c.self.inside.store.jobs_out c.args.number) (rw (← c.self.view_is) at c.requires)

pub returns : goal.returns
returns g c =
    let s = c.self.inside in
    rw (← c.self.view_is)
    (land_of_seen (record { origin = s.origin; entries = s.journal.items }) (record { ids_given = s.ids_given; stream = s.ordered.folded.stream }) s.store c.land_number.new.self
    (IsStoreOf-kept (record { origin = s.origin; entries = s.journal.items }) (record { ids_given = s.ids_given; stream = s.ordered.folded.stream }) s.store c.self.invariant) c.args.number c.args.picture c.land_number.result
    c.land_number.ensures)
