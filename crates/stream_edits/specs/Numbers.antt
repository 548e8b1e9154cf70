-- The numbers of refusals.
use Rattle.std.specs.Prelude.{ℕ}
use Rattle.access_unit.specs.declared.refused.Refused.{Refused}
use Rattle.access_unit.specs.declared.refused.Refused.TheVariants as texts
use Rattle.access_unit.specs.Numbers.{number_of as number_of_text}
use Rattle.stream_edits.specs.declared.refusals.EditRefused.{EditRefused}
use Rattle.stream_edits.specs.declared.refusals.EditRefused.TheVariants as refusals

-- the number of an edit's refusal
abbrev pub number_of : EditRefused → ℕ
number_of (refusals.Unit refused) = number_of_text refused
number_of refusals.NoSuchUnit = 16
number_of refusals.StreamFull = 17
number_of refusals.IdsSpent = 18
number_of refusals.Memory = 15

-- the refusal of an edit whose text is refused so
abbrev pub refusal_of_text : Refused → EditRefused
refusal_of_text texts.Memory = refusals.Memory
refusal_of_text refused = refusals.Unit refused
