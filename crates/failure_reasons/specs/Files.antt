-- Why a file isn't read as a stream, in words.
use Rattle.std.specs.Prelude.{◌≡◌, ◌++◌, ℕ, List, codes, decimal, Option, None, Some}
use Rattle.access_unit.specs.StreamUnits.{IsStream, IsStreamRefused, most_units}
use Rattle.access_unit.specs.declared.stream_units.Refusal.{Refusal}
use Rattle.access_unit.specs.declared.stream_units.Refusal.TheVariants as refusal
use Rattle.access_unit.specs.declared.refused.Refused.TheVariants.{Split}
use Rattle.stream_reasons.specs.Kinds.{kind_of}
use Rattle.stream_reasons.specs.Texts.{sentence_of}
use Rattle.stream_reasons.specs.declared.file_kinds.kind.FileKind.{FileKind}
use Rattle.stream_reasons.specs.declared.file_kinds.kind.FileKind.TheVariants.{H264AnnexB}
use Rattle.failure_reasons.specs.declared.file_reasons.file_reason.FileReason.{FileReason}
use Rattle.stream_reasons.specs.Reasons.{reason_text}
use Rattle.stream_reasons.specs.declared.reason.Reason.TheVariants.{Refused, StreamFull}

-- why a stream is refused
abbrev pub refusal_reason : Refusal → List ℕ
refusal_reason refusal.Split = reason_text (Refused Split)
refusal_reason (refusal.Unit index refused) =
    codes "access unit at index " ++ (decimal index ++ (codes ": " ++ reason_text (Refused refused)))
refusal_reason refusal.StreamFull = reason_text StreamFull

-- why a file of a kind isn't read: what it is, where it is no byte stream of H.264
abbrev pub reason_by : FileKind → Refusal → List ℕ
reason_by H264AnnexB refusal = refusal_reason refusal
reason_by kind refusal = sentence_of kind ++ codes ", not a byte stream of H.264 (Annex B)"

-- the sentence of a reason
abbrev pub file_reason : FileReason → List ℕ
file_reason reason = reason_by reason.kind reason.refusal

-- what is said of the file of this name
abbrev pub refused_file : List ℕ → FileReason → List ℕ
refused_file name reason =
    name ++ (codes ": " ++ (file_reason reason ++ (codes "; see: preview check " ++ (name ++ codes "\n"))))

-- it is the reason for which a text isn't read, of its kind and as it is refused; without one the text is a stream
abbrev pub IsReasonFor : Option FileReason → List ℕ → Type 0
IsReasonFor None text = (parts : List (List (List ℕ))) × IsStream text parts
IsReasonFor (Some reason) text = (reason.kind ≡ kind_of text) × IsStreamRefused text most_units reason.refusal
