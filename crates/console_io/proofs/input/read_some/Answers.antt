use Rattle.console_io.proofs.Reading.{consumed-after}
use Rattle.console_io.proofs.input.read_some.Goals as goal

pub returns-in-Ok-clause-some : goal.returns-in-Ok-clause-some
returns-in-Ok-clause-some g c = consumed-after _ _ _ _ c.tries.invariant.kept c.in-Ok.ensures.bytes.0
