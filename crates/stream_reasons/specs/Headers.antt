-- Byte streams that a NAL unit's first bytes tell (ITU-T H.264, 7.3.1 and B.1; H.265 and H.266, 7.3.1.2; H.262, 6.2.1).
use Rattle.std.specs.Prelude.{ℕ, zero, suc, Bool, ◌==◌, List, [], ◌∷◌, length, Option, None, Some}
use Rattle.std.specs.List.{find, starts_with}
use Rattle.stream_reasons.specs.declared.file_kinds.kind.FileKind.{FileKind}
use Rattle.stream_reasons.specs.declared.file_kinds.headers.Header.{Header}
use Rattle.stream_reasons.specs.Tables.{HeaderRow, headers}

-- what a header of the code says
abbrev pub header_row : Header → HeaderRow
header_row header = record { kind = header.kind; bytes = header.bytes.now }

-- the bytes begin with those of a header
abbrev pub begins : List ℕ → HeaderRow → Bool
begins bytes header = starts_with (λ one other. one == other) bytes header.bytes

-- the kind of a header that was found
abbrev pub kind_of_header : Option HeaderRow → Option FileKind
kind_of_header None = None
kind_of_header (Some header) = Some header.kind

-- the kind of the first header with which the bytes begin
abbrev pub first_header : List HeaderRow → List ℕ → Option FileKind
first_header headers bytes = kind_of_header (find (begins bytes) headers)

-- the kind that what stands after a start code tells, by the table
unfoldable pub kind_after : List ℕ → Option FileKind
kind_after bytes = first_header headers bytes

-- the kind that a start code at the front of the bytes tells
abbrev pub kind_at : List ℕ → Option FileKind
kind_at (zero ∷ zero ∷ suc zero ∷ bytes) = kind_after bytes
kind_at bytes = None

-- the first kind, or the other where there is none
abbrev pub first_of : Option FileKind → Option FileKind → Option FileKind
first_of None other = other
first_of (Some kind) other = Some kind

-- the kind that the first start code tells that tells one
abbrev pub header_kind : List ℕ → Option FileKind
header_kind [] = None
header_kind (byte ∷ bytes) = first_of (kind_at (byte ∷ bytes)) (header_kind bytes)
