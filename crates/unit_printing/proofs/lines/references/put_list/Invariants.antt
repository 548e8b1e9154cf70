use Rattle.std.proofs.Common.{◌++◌, codes, flat_map, string_bytes, take}
use Rattle.unit_printing.specs.Growing.{Grows}
use Rattle.unit_printing.specs.Lines.{place_text}
use Rattle.unit_printing.proofs.lines.references.put_list.Given as goal

abbrev pub invariant-loop-place : goal.invariant-loop-place
invariant-loop-place l =
    Grows (string_bytes l.initial.text) (string_bytes l.text) (flat_map (λ place. codes "," ++ place_text place) (take l.place-index l.others))
