use Rattle.std.proofs.Common.{◌≡◌}
use Rattle.std.specs.Prelude.{IfSome}
use Rattle.annexb.specs.ByteStream.{joined}
use Rattle.access_unit.proofs.Progress.{IsAddedTo}
use Rattle.access_unit.proofs.unit.unit_with.Given as goal

abbrev pub invariant-loop-nal : goal.invariant-loop-nal
invariant-loop-nal l = record {
  added : IsAddedTo l.nals l.nal-index l.parts;
  text_is : IfSome l.text (λ text. text ≡ joined l.nals);
}
