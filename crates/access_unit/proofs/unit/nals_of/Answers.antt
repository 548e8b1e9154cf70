-- The length comes first, then whether the text has NAL units.
use Rattle.std.proofs.Common.{inr, refl, arith}
use Rattle.access_unit.specs.Answers.{too_long, unsplit}
use Rattle.access_unit.proofs.unit.nals_of.Goals as goal

pub returns-then-text-gt-MOST_BYTES-clause-err : goal.returns-then-text-gt-MOST_BYTES-clause-err
returns-then-text-gt-MOST_BYTES-clause-err c = inr (too_long c.if-text-gt-MOST_BYTES.true refl)

pub returns-in-Some-clause-ok : goal.returns-in-Some-clause-ok
returns-in-Some-clause-ok c = record { has = rw c.in-Some.is at c.in_ok-nals.ensures.ok; short = omega arith }

pub returns-in-None-clause-err : goal.returns-in-None-clause-err
returns-in-None-clause-err c = inr (unsplit (omega arith) (rw c.in-None.is at c.in_ok-nals.ensures.ok) refl)
