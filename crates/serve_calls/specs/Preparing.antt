-- A stream that is to be loaded, as it came or mended.
use Rattle.std.specs.Prelude.{ℕ, Bool, true, false, List, None, Some}
use Rattle.stream_mending.specs.Mended.{mended, told}
use Rattle.serve_answers.specs.LeftOutAnswers.{left_out_answers}
use Rattle.serve_calls.specs.declared.preparing.Prepared.{Prepared}

-- a stream as it came, of which nothing is told; or what mending leaves of it, and what it left out
abbrev pub prepared : Bool → List ℕ → Prepared
prepared false text = record { text = text; left_out = None }
prepared true text = record { text = mended text; left_out = Some (left_out_answers (told text)) }
