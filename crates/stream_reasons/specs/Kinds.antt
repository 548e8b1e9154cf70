-- The kind of a file: what is looked at, and in which order.
use Rattle.std.specs.Prelude.{ℕ, List, take, Option, None, Some, if◌then◌else◌}
use Rattle.annexb.specs.Faults.{is_nothing}
use Rattle.stream_reasons.specs.declared.file_kinds.kind.FileKind.{FileKind}
use Rattle.stream_reasons.specs.declared.file_kinds.kind.FileKind.TheVariants.{LengthPrefixedH264, Empty}
use Rattle.stream_reasons.specs.declared.file_kinds.detection.TheConstants.{FIRST_BYTES}
use Rattle.stream_reasons.specs.Signatures.{container_kind}
use Rattle.stream_reasons.specs.Headers.{header_kind}
use Rattle.stream_reasons.specs.Lengths.{is_length_prefixed}
use Rattle.stream_reasons.specs.Plain.{plain_kind}

-- the kind that was found, or else the other
abbrev pub kind_or : Option FileKind → FileKind → FileKind
kind_or None other = other
kind_or (Some kind) other = kind

-- what bytes of no container are: NAL units after their lengths, or what their start codes tell
abbrev pub coded_kind : List ℕ → FileKind
coded_kind bytes = if is_length_prefixed bytes then LengthPrefixedH264 else kind_or (header_kind bytes) (plain_kind bytes)

-- what the bytes are: the first container that fits goes before all
abbrev pub kind_in : List ℕ → FileKind
kind_in bytes = if is_nothing bytes then Empty else kind_or (container_kind bytes) (coded_kind bytes)

-- what a file is, by its first 65,536 bytes
abbrev pub kind_of : List ℕ → FileKind
kind_of text = kind_in (take FIRST_BYTES text)
