-- What is found of a file.
use Rattle.std.specs.Prelude.{◌≡◌, ◌≢◌, ◌≤◌, ℕ, ◌==◌, Bool, false, List, length, map, vec_len}
use Rattle.access_unit.specs.StreamUnits.{IsStream, IsStreamRefused, most_units}
use Rattle.unit_outcomes.specs.InDoubt.{AreDoubts}
use Rattle.unit_outcomes.specs.declared.doubts.walk.Doubt.{Doubt}
use Rattle.stream_reasons.specs.Kinds.{kind_of}
use Rattle.stream_reasons.specs.declared.file_kinds.kind.FileKind.TheVariants.{H264AnnexB}
use Rattle.request_core.specs.States.{no_units}
use Rattle.stream_mending.specs.Mended.{told}
use Rattle.unit_printing.specs.Seen.{stream_seen}
use Rattle.unit_printing.specs.StreamLines.{stream_outcomes}
use Rattle.stream_check.specs.StreamCounts.{counted, counts_of}
use Rattle.stream_check.specs.Problems.{problems_from}
use Rattle.stream_check.specs.Unread.{left_out_of}
use Rattle.stream_check.specs.declared.counts.Which.TheVariants.{Fault}
use Rattle.stream_check.specs.declared.check_result.CheckResult.{CheckResult}
use Rattle.stream_check.specs.declared.check_result.CheckResult.TheVariants.{Other, Refused, Stream}
use Rattle.stream_check.specs.declared.check_result.CheckedStream.{CheckedStream}

-- whether there is nothing to complain of
abbrev pub is_fine : CheckResult → Bool
is_fine (Other _) = false
is_fine (Refused _) = false
is_fine (Stream stream) = stream.counts.faults == 0

-- what is found of the access units of a stream, by its plain fold and what is told of doubt
pub record IsCheckOf (units : List (List (List ℕ))) (stream : CheckedStream) : Type 0 where
  pub told : List Doubt
  pub are_told : AreDoubts (stream_seen units (stream_outcomes units)) 0 (length units) told
  pub counts : stream.counts ≡ counts_of (stream_outcomes units) told
  pub problems : stream.problems.items ≡ problems_from no_units 1 units
  pub spans : vec_len stream.spans ≡ length units

-- the text is a stream for which there is room
abbrev pub IsTaken : List ℕ → Type 0
IsTaken text = (units : List (List (List ℕ))) × IsStream text units × (length units ≤ most_units)

-- what is found of a text: what the access units of a stream show; of any other text the kind that its first bytes tell, or, if
-- that is H.264 after start codes, why it is refused and what `mend` leaves out
abbrev pub IsFound : List ℕ → CheckResult → Type 0
IsFound text (Other kind) = (¬ IsTaken text) × (kind ≡ kind_of text) × (kind ≢ H264AnnexB)
IsFound text (Refused refused) = (¬ IsTaken text) × (kind_of text ≡ H264AnnexB)
    × IsStreamRefused text most_units refused.refusal × (map left_out_of refused.unread.items ≡ told text)
IsFound text (Stream stream) = (units : List (List (List ℕ))) × IsStream text units × (length units ≤ most_units) × IsCheckOf units stream

-- there is nothing to complain of: it is a stream for which there is room, and no unit of its plain fold has a fault
abbrev pub IsFine : List ℕ → Type 0
IsFine text = (units : List (List (List ℕ))) × IsStream text units × (length units ≤ most_units)
    × (counted Fault (stream_outcomes units) ≡ 0)
