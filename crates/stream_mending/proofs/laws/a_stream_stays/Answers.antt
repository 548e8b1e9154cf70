use Rattle.stream_mending.proofs.Unchanged.{stays_as_it_is, nothing_left_out}
use Rattle.stream_mending.proofs.laws.a_stream_stays.Goals as goal

pub returns-clause-written : goal.returns-clause-written
returns-clause-written c = stays_as_it_is

pub returns-clause-told : goal.returns-clause-told
returns-clause-told c = nothing_left_out
