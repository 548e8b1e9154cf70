use Rattle.std.proofs.Common.{◌+◌, drop}
use Rattle.plan_stream.specs.Folds.{kept_text}
use Rattle.plan_stream.proofs.KeptTexts.{IsPrinted}
use Rattle.plan_stream.proofs.printing.print_lines.Given as goal

abbrev pub invariant-loop-place : goal.invariant-loop-place
invariant-loop-place g l =
    IsPrinted l.fn.chunks l.chunks (g.W.Write.contents l.fn.writer) (g.W.Write.contents l.writer)
    (kept_text 1 l.outcomes l.positions l.tails)
    (kept_text (l.place + 1) (drop l.place l.outcomes) (drop l.place l.positions) (drop l.place l.tails))
