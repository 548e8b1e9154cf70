use Rattle.slice_header.specs.SliceHeaders.{header_at}
use Rattle.slice_header.proofs.reading.whole.Goals as goal

pub returns : goal.returns
unfolding header_at
returns c = rw c.in_ok-payload.ensures.value at (rw c.deref.ensures.value at c.header_of.ensures)
