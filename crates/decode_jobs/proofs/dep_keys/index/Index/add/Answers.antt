use Rattle.std.proofs.Common.{length, ◌≡◌, rules}
use Rattle.decode_jobs.proofs.Indexing.{index_more}
use Rattle.decode_jobs.proofs.dep_keys.index.Index.add.Goals as goal

-- src/index.rt:45:5
pub invariant_of-self-2 : goal.invariant_of-self-2
invariant_of-self-2 c =
    let e : c.len-place.result ≡ length c.self.inside.fingerprints.items = search rules in
    rw (c.push_reserved-2.ensures.items, c.push_reserved.ensures.items, c.in_ok-reserve.ensures.items, c.in_ok-reserve-2.ensures.items)
    (index_more c.self.inside.fingerprints.items c.args.fingerprint c.self.inside.newest c.insert.new.self c.self.inside.older.items c.in_ok-older.older
    c.len-place.result e c.self.invariant c.in_ok-older.ensures.old c.in_ok-older.ensures.updates)
