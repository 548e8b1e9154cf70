use Rattle.stream_reasons.specs.Signatures.{container_kind}
use Rattle.stream_reasons.specs.Tables.{containers}
use Rattle.stream_reasons.proofs.file_kinds.signatures.container_kind.Goals as goal

-- the table of the code is that of the definitions
pub returns : goal.returns
unfolding container_kind containers
returns c = c.first_kind.ensures
