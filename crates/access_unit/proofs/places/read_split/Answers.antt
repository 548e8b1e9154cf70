-- The answer is that of the text's length, or of the NAL units at the places.
use Rattle.std.proofs.Common.{arith}
use Rattle.access_unit.proofs.Texts.{IsReadAs-units, only_answer}
use Rattle.access_unit.proofs.places.read_split.Goals as goal

pub returns-clause-read : goal.returns-clause-read
returns-clause-read c =
    IsReadAs-units _ _ c.requires.units (omega (arith, c.len.ensures.value, c.if-len-gt-MOST_BYTES.false)) _ c.unit_at.ensures.ok c.unit_at.ensures.err

pub returns-clause-only : goal.returns-clause-only
returns-clause-only c = λ units accepted.
    only_answer _ units accepted _
    (IsReadAs-units _ _ c.requires.units (omega (arith, c.len.ensures.value, c.if-len-gt-MOST_BYTES.false)) _ c.unit_at.ensures.ok c.unit_at.ensures.err)
