-- What the closure says of each unit is said of the unit's hash.
use Rattle.std.proofs.Common.{◌≡◌, ◌∙◌, ℕ, List, ap}
use Rattle.picture_keys.specs.Digests.{IsHashed}
use Rattle.rayon.proofs.ListFacts.{IfOk-then}
use Rattle.rayon.proofs.ToStd.{slice-AllZip}
use Rattle.picture_keys.proofs.units.hashes_of.Goals as goal

pub returns : goal.returns
returns g c =
    let slice = ap (λ it. it.slice.now) c.with_min_len.ensures.base ∙ c.par_iter.ensures in
    IfOk-then c.collect.result _ _ c.collect.ensures (λ v h.
    let chain = rw c.map.ensures.base at h.1 in
    rw h.2 (slice-AllZip chain.0 c.args.units.now (chain.1 ∙ slice) (λ unit hash. IsHashed unit hash.digest.bytes hash.hashed) h.0 chain.2))
