-- Why a stream is refused, with one access unit more that is refused.
use Rattle.std.specs.Prelude.{ℕ, Option, None, Some}
use Rattle.access_unit.specs.declared.refused.Refused.{Refused}
use Rattle.access_unit.specs.declared.refused.Refused.TheVariants as refusals
use Rattle.access_unit.specs.declared.stream_units.Refusal.{Refusal}
use Rattle.access_unit.specs.declared.stream_units.Refusal.TheVariants.{Split, Unit, StreamFull}

-- the access unit at this index is the first that is refused, unless one before it was, or the
-- stream doesn't split
abbrev pub refused_after : Option Refusal → ℕ → Refused → Option Refusal
refused_after None index refused = Some (Unit index refused)
refused_after (Some StreamFull) index refused = Some (Unit index refused)
refused_after (Some before) index refused = Some before

-- a text that doesn't split is refused for that
abbrev pub refusal_with : Option Refusal → ℕ → Refused → Option Refusal
refusal_with before index refusals.Split = Some Split
refusal_with before index refused = refused_after before index refused
