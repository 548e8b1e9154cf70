-- What a server adds up over its edits.
use Rattle.std.specs.Prelude.{ℕ, ◌+◌, ◌-◌, ◌^◌, List, length, min, sum_by}
use Rattle.stream_edits.specs.declared.edits.Edit.{Edit}
use Rattle.stream_edits.specs.declared.edits.Edit.TheVariants.{Insert, Delete, Replace}
use Rattle.serve_calls.specs.declared.sums.Sums.{Sums}

-- before the first edit
abbrev pub no_sums : Sums
no_sums = record { steps = 0; bytes = 0 }

-- two counts together, or the largest that is told
abbrev pub counted : ℕ → ℕ → ℕ
counted count more = min (count + more) (2 ^ 64 - 1)

-- after an edit more, with so many steps and bytes
abbrev pub with_edit : Sums → ℕ → ℕ → Sums
with_edit sums steps bytes = record { steps = counted sums.steps steps; bytes = counted sums.bytes bytes }

-- how many bytes the text of an edit has
abbrev pub bytes_of_edit : Edit → ℕ
bytes_of_edit (Insert place text) = length text
bytes_of_edit (Delete id) = 0
bytes_of_edit (Replace id text) = length text

-- how many bytes the texts of edits have, or the largest count that is told
abbrev pub bytes_of : List Edit → ℕ
bytes_of edits = min (sum_by bytes_of_edit edits) (2 ^ 64 - 1)
