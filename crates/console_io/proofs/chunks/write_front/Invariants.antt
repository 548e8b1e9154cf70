use Rattle.std.proofs.Common.{◌≡◌, ◌⊎◌}
use Rattle.std.specs.Io.KnownBytes.{Keeps}
use Rattle.console_io.proofs.chunks.write_front.Given as goal

abbrev pub invariant-tries : goal.invariant-tries
invariant-tries g l = record {
  kept : Keeps (g.W.Write.contents l.fn.writer) (g.W.Write.contents l.writer);
  tried : (l.turn ≡ 0) ⊎ g.W.Sink.refuses l.writer;
}
