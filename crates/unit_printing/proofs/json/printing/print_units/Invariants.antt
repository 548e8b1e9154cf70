use Rattle.std.specs.Prelude.{ℕ, List, Option}
use Rattle.unit_printing.specs.Said.{AreSaid}
use Rattle.unit_printing.specs.StreamLines.{json_lines}
use Rattle.unit_printing.proofs.SaidLines.{lines_from}
use Rattle.unit_printing.proofs.json.printing.print_units.Given as goal

-- once the lines that are left are said, all are
abbrev pub invariant-loop-place : goal.invariant-loop-place
invariant-loop-place g l = (end : Option (List ℕ))
    → AreSaid g.J.Encoder.says (lines_from l.form.mode l.outcomes l.positions l.doubts l.place) (g.W.Write.contents l.writer) end
    → AreSaid g.J.Encoder.says (json_lines l.form.mode 1 l.outcomes l.positions l.doubts) (g.W.Write.contents l.fn.writer) end
