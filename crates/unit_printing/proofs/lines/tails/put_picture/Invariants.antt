use Rattle.std.proofs.Common.{string_bytes, take}
use Rattle.request_core.specs.Requests.{requests_of}
use Rattle.unit_printing.specs.Growing.{Grows}
use Rattle.unit_printing.specs.Lines.{request_lines}
use Rattle.unit_printing.proofs.lines.tails.put_picture.Given as goal

abbrev pub invariant-loop-place : goal.invariant-loop-place
invariant-loop-place l =
    Grows (string_bytes l.initial.text) (string_bytes l.text)
    (request_lines l.id 0 (take l.place (requests_of l.picture.frames l.picture.counts l.picture.id l.slices)))
