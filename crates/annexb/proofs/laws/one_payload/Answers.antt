use Rattle.std.proofs.Common.{ap, sym, ◌∙◌}
use Rattle.annexb.specs.EmulationPrevention.{escape}
use Rattle.annexb.proofs.Escapes.{escape-payload_of, payload_of-only}
use Rattle.annexb.proofs.laws.one_payload.Goals as goal

pub returns : goal.returns
returns c = λ unit payload is_unit. (λ e. sym (payload_of-only unit payload e), λ e. ap escape e ∙ escape-payload_of unit is_unit)
