use Rattle.stream_reasons.specs.Headers.{kind_after}
use Rattle.stream_reasons.specs.Tables.{headers}
use Rattle.stream_reasons.proofs.file_kinds.headers.kind_after.Goals as goal

-- the table of the code is that of the definitions
pub returns : goal.returns
unfolding kind_after headers
returns c = c.first_header.ensures
