use Rattle.picture_keys.specs.Referred.{keys_named}
use Rattle.picture_keys.proofs.laws.picture_is_of_its_key.Goals as goal

pub returns : goal.returns
returns g c = λ known input picture shows decoded. g.met.P.Decoded.closed (keys_named known input.requests) input picture shows decoded
