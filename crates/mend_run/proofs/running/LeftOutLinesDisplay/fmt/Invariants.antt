use Rattle.std.proofs.Common.{take}
use Rattle.std.specs.Fmt.{HasWritten, IsPlainFormatter}
use Rattle.mend_run.specs.Runs.{told_text}
use Rattle.mend_run.proofs.running.LeftOutLinesDisplay.fmt.Given as goal

-- the lines so far are written
abbrev pub invariant-loop-left_out : goal.invariant-loop-left_out
invariant-loop-left_out g l =
    IsPlainFormatter l.initial.f → HasWritten g.W.Write.write_str_gives l.initial.f (told_text (take l.left_out-index l.self.0.now)) l.f
