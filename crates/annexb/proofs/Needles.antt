-- Where a search found a needle, and where it found none, as what is left of the bytes there.
use Rattle.std.proofs.Common.{◌≡◌, ℕ, ◌+◌, ◌<◌, List, ◌++◌, length, drop, arith, ap, length-append, length-drop}
use Rattle.std.proofs.lemmas.List.Prefix.{at_from_reads, at_reads}
use Rattle.memchr.specs.Find.{OccursAt}

-- at the place of a needle it stands in front of the rest
pub drop-occurs : (bytes needle : List ℕ) (at : ℕ) → OccursAt bytes needle at → drop at bytes ≡ needle ++ drop (at + length needle) bytes
drop-occurs bytes needle at h = at_from_reads 0 bytes needle at h.fits h.reads

-- what stands in front of the rest occurs
pub OccursAt-from_drop : (bytes needle rest : List ℕ) (at : ℕ) → 0 < length needle → drop at bytes ≡ needle ++ rest → OccursAt bytes needle at
OccursAt-from_drop bytes needle rest at some e = record {
  fits = omega (arith, length-drop at bytes, length-append needle rest, ap length e);
  reads = at_reads 0 bytes needle at rest e;
}
