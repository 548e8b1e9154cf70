-- Bytes that no table tells.
use Rattle.std.specs.Prelude.{ℕ, Bool, not, ◌&&◌, ◌||◌, ◌==◌, nat_le, List, if◌then◌else◌}
use Rattle.std.specs.List.{list_all}
use Rattle.annexb.specs.Faults.{begins_with_start_code}
use Rattle.stream_reasons.specs.declared.file_kinds.kind.FileKind.{FileKind}
use Rattle.stream_reasons.specs.declared.file_kinds.kind.FileKind.TheVariants.{H264AnnexB, Text, Unknown}

-- no control character but a tab, a line feed, a form feed or a carriage return (IETF RFC 20, 5.2)
abbrev pub is_text_byte : ℕ → Bool
is_text_byte byte = byte == 9 || byte == 10 || byte == 12 || byte == 13 || (nat_le 32 byte && not (byte == 127))

-- all bytes are such
abbrev pub is_text : List ℕ → Bool
is_text bytes = list_all is_text_byte bytes

-- what begins with a start code is taken for H.264; the rest is text or isn't known
abbrev pub plain_kind : List ℕ → FileKind
plain_kind bytes = if begins_with_start_code bytes then H264AnnexB else if is_text bytes then Text else Unknown
