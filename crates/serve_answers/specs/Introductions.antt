-- What a server is, and what it takes (docs/SERVER.md).
use Rattle.std.specs.Prelude.{Bool, codes}
use Rattle.access_unit.specs.Refusals.{most_bytes}
use Rattle.access_unit.specs.StreamUnits.{most_units}
use Rattle.stream_edits.specs.Groups.{most_edits}
use Rattle.serve_requests.specs.Fields.{most_told}
use Rattle.serve_requests.specs.Methods.{methods}
use Rattle.serve_answers.specs.LeftOutAnswers.{most_left_out}
use Rattle.serve_answers.specs.declared.introduction.Introduction.{Introduction}
use Rattle.serve_answers.specs.declared.introduction.Limits.{Limits}

-- how much a server takes at most: units of a stream, bytes and slices of a unit, edits of a group,
-- ids that are wanted, units that are told at once, ranges that a load left out, and bytes of a line
abbrev pub limits : Limits
limits = record {
  units = most_units;
  unit_bytes = most_bytes;
  slices = 256;
  group = most_edits;
  wanted = 64;
  count = most_told;
  left_out = most_left_out;
  message_bytes = 67108864;
}

-- what a server is, whether it has methods about jobs and about a journal's file or not
abbrev pub introduction : Bool → Bool → Introduction
introduction has_jobs has_journal = record {
  name = codes "cupdaisy";
  version = codes "0.3.0";
  methods = methods has_jobs has_journal;
  limits = limits;
}
