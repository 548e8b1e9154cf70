-- What mending left out of a stream that is loaded, as results (docs/SERVER.md).
use Rattle.std.specs.Prelude.{ℕ, List, map, take}
use Rattle.stream_mending.specs.Told.{why_text}
use Rattle.stream_mending.specs.declared.why.LeftOut.{LeftOut}
use Rattle.serve_answers.specs.declared.left_out_answers.LeftOutAnswer.{LeftOutAnswer}

-- how many of the ranges that are left out are told at most
abbrev pub most_left_out : ℕ
most_left_out = 1000

-- bytes that are left out
abbrev pub left_out_answer : LeftOut → LeftOutAnswer
left_out_answer left_out = record { byte = left_out.byte; bytes = left_out.bytes; why = why_text left_out.why }

-- the first of what is left out, as many as are told
abbrev pub left_out_answers : List LeftOut → List LeftOutAnswer
left_out_answers left_out = map left_out_answer (take most_left_out left_out)
