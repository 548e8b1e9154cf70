use Rattle.std.proofs.Common.{rules}
use Rattle.script_run.proofs.shared.ending.edits_in.Goals as goal

pub returns : goal.returns
returns c = search rules
