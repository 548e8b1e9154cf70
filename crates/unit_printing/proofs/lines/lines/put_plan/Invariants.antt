use Rattle.std.proofs.Common.{string_bytes, take}
use Rattle.unit_printing.specs.Growing.{Grows}
use Rattle.unit_printing.specs.Lines.{request_lines}
use Rattle.unit_printing.proofs.lines.lines.put_plan.Given as goal

abbrev pub invariant-loop-slice : goal.invariant-loop-slice
invariant-loop-slice l =
    Grows (string_bytes l.initial.text) (string_bytes l.text) (request_lines l.id 0 (take l.slice l.requests))
