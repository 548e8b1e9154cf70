-- A text of NAL units is refused for memory alone.
use Rattle.access_unit.proofs.reading.nals_of.Goals as goal

pub returns-in_default : goal.returns-in_default
returns-in_default c = record {
  ok = tt;
  err = λ limit units has. absurd (c.in_default.not-Memory (c.in-Err.ensures.only units has).1);
}
