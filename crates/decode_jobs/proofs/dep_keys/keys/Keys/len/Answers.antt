use Rattle.std.proofs.Common.{◌≡◌, length, rules}
use Rattle.decode_jobs.proofs.Building.{grown_length}
use Rattle.decode_jobs.proofs.dep_keys.keys.Keys.len.Goals as goal

pub returns : goal.returns
returns g c =
    let e : c.len.result ≡ length c.self.inside.slots.items = search rules in
    rw (← c.self.view_is, grown_length, e) (search rules)
