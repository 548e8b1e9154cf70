-- The first byte that isn't 0 is the last of the start code.
use Rattle.std.proofs.Common.{arith}
use Rattle.access_unit.proofs.Pieces.{first_byte, no_zeros_alone}
use Rattle.access_unit.proofs.cuts.zeros_before_code.Goals as goal

pub returns-then-byte-ne0 : goal.returns-then-byte-ne0
returns-then-byte-ne0 c = λ zeros rest text_is.
    let found = first_byte _ zeros rest text_is c.loop-at.at c.if-byte-ne0.true c.loop-at.invariant in
    omega (arith, found, c.saturating_sub.ensures)

pub returns : goal.returns
returns c = λ zeros rest text_is. absurd (no_zeros_alone _ zeros rest text_is c.loop-at.at c.loop-at-test.false c.loop-at.invariant)
