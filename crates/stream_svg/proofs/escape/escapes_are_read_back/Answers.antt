use Rattle.stream_svg.proofs.Marks.{harmless, reads_back}
use Rattle.stream_svg.proofs.escape.escapes_are_read_back.Goals as goal

pub returns-clause-read : goal.returns-clause-read
returns-clause-read c = reads_back

pub returns-clause-harmless : goal.returns-clause-harmless
returns-clause-harmless c = harmless
