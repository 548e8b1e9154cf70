-- What a journal has of each step.
use Rattle.std.specs.Prelude.{List, [], ◌∷◌, ◌++◌}
use Rattle.stream_edits.specs.declared.edits.Edit.{Edit}
use Rattle.stream_edits.specs.declared.journal_entry.Edits.{Edits}
use Rattle.stream_edits.specs.declared.journal_entry.Edits.TheVariants.{One, Several}

-- the edits that are kept
abbrev pub edits_in : Edits → List Edit
edits_in (One edit) = edit ∷ []
edits_in (Several edits) = edits.items

-- the edits of all entries, in order
abbrev pub edits_of : List (List Edit) → List Edit
edits_of [] = []
edits_of (entry ∷ entries) = entry ++ edits_of entries
