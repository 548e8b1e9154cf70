-- Files that are known by bytes at their places.
use Rattle.std.specs.Prelude.{ℕ, Bool, ◌==◌, List, drop, map, Option, None, Some}
use Rattle.std.specs.List.{find, list_all, starts_with}
use Rattle.stream_reasons.specs.declared.file_kinds.kind.FileKind.{FileKind}
use Rattle.stream_reasons.specs.declared.file_kinds.signatures.Signature.{Signature}
use Rattle.stream_reasons.specs.declared.file_kinds.signatures.Row.{Row}
use Rattle.stream_reasons.specs.Tables.{PlacedBytes, KindRow, containers}

-- what a mark of the code says
abbrev pub placed : Signature → PlacedBytes
placed signature = record { at = signature.at; bytes = signature.bytes.now }

-- what a row of the code says
abbrev pub kind_row : Row → KindRow
kind_row row = record { kind = row.kind; signatures = map placed row.signatures.now }

-- the bytes of a mark stand at its place
abbrev pub stands : List ℕ → PlacedBytes → Bool
stands bytes signature = starts_with (λ one other. one == other) (drop signature.at bytes) signature.bytes

-- all marks of a row stand in the bytes
abbrev pub fits : List ℕ → KindRow → Bool
fits bytes row = list_all (stands bytes) row.signatures

-- the kind of a row that was found
abbrev pub kind_of_row : Option KindRow → Option FileKind
kind_of_row None = None
kind_of_row (Some row) = Some row.kind

-- the kind of the first row that fits
abbrev pub first_kind : List KindRow → List ℕ → Option FileKind
first_kind rows bytes = kind_of_row (find (fits bytes) rows)

-- the kind of the first row of the table that does
unfoldable pub container_kind : List ℕ → Option FileKind
container_kind bytes = first_kind containers bytes
