-- What a host's decoder makes. No proof can unfold this, so what is proved holds of any relation.
use Rattle.decode_jobs.specs.Inputs.{InputValue}
use Rattle.decode_jobs.specs.declared.surfaces.surface.Surface.{Surface}

-- the host's decoder made the surface's picture of the input
pub IsMadeByHost : InputValue Surface → Surface → Type 0
IsMadeByHost input surface = Unit {0}
