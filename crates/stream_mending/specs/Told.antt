-- What is told of bytes that are left out (docs/OUTPUT.md).
use Rattle.std.specs.Prelude.{ℕ, ◌++◌, List, codes, decimal}
use Rattle.stream_mending.specs.declared.why.Why.{Why}
use Rattle.stream_mending.specs.declared.why.Why.TheVariants.{NotNalUnit, Empty, ForbiddenBytes, ForbiddenBit, UnitType, UnreadSps, UnreadPps, Switching, IdrNotIntra, IdrNotReference, TooLarge}
use Rattle.stream_mending.specs.declared.why.LeftOut.{LeftOut}

-- the words of a reason
abbrev pub why_text : Why → List ℕ
why_text NotNalUnit = codes "not a NAL unit"
why_text Empty = codes "empty"
why_text ForbiddenBytes = codes "forbidden bytes"
why_text ForbiddenBit = codes "forbidden bit"
why_text (UnitType number) = codes "type " ++ decimal number
why_text UnreadSps = codes "unread SPS"
why_text UnreadPps = codes "unread PPS"
why_text Switching = codes "switching"
why_text IdrNotIntra = codes "IDR slice that isn't intra"
why_text IdrNotReference = codes "IDR slice that isn't a reference"
why_text TooLarge = codes "too large"

-- what is told of bytes that are left out
abbrev pub left_out_text : LeftOut → List ℕ
left_out_text left_out = codes "byte " ++ (decimal left_out.byte ++ (codes ": left out " ++ (decimal left_out.bytes
    ++ (codes " bytes: " ++ why_text left_out.why))))
