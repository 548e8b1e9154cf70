use Rattle.std.proofs.Common.{take}
use Rattle.stream_session.specs.Machines.{empty}
use Rattle.stand_in_session.specs.Runs.{Runs}
use Rattle.stand_in_session.proofs.runner.run.Given as goal

abbrev pub invariant-loop-command : goal.invariant-loop-command
invariant-loop-command l = Runs (empty l.fn.config.cache) (take l.command-index l.commands) l.replies.items l.runner
