use Rattle.plan_stream.proofs.FrontTexts.{front-short}
use Rattle.plan_stream.proofs.reading.read_held.Goals as goal

pub returns-then-is_empty : goal.returns-then-is_empty
returns-then-is_empty c = front-short c.args.text.now c.requires.short c.read_shared.result c.read_shared.ensures.read

pub returns-else-is_empty : goal.returns-else-is_empty
returns-else-is_empty c = front-short c.args.text.now c.requires.short c.read_split.result c.read_split.ensures.read
