-- What a book has of a group of edits.
use Rattle.std.specs.Prelude.{ℕ, List}
use Rattle.stream_edits.specs.declared.edits.Edit.{Edit}

-- the edits, and the id that each was answered
pub record Noted : Type 0 where
  pub edits : List Edit
  pub ids : List ℕ
