use Rattle.std.proofs.Common.{arith}
use Rattle.plan_stream.proofs.FrontTexts.{front-short}
use Rattle.plan_stream.proofs.reading.read_front.Goals as goal

pub returns-else-text-gt-MOST_BYTES : goal.returns-else-text-gt-MOST_BYTES
returns-else-text-gt-MOST_BYTES c = front-short c.args.text.now (omega arith) c.read_unit.result c.read_unit.ensures.read
