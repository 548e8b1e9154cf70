use Rattle.std.proofs.Common.{flat_map, length, string_bytes, take}
use Rattle.std.specs.List.{zip}
use Rattle.unit_printing.specs.Growing.{Grows}
use Rattle.unit_printing.specs.Lines.{next_text}
use Rattle.unit_printing.proofs.lines.references.put_more_entries.Given as goal

abbrev pub invariant-loop-unit : goal.invariant-loop-unit
invariant-loop-unit l =
    Grows (string_bytes l.initial.text) (string_bytes l.text)
    (flat_map next_text (take (length l.yielded) (zip l.units l.entries)))
