use Rattle.std.proofs.Common.{take}
use Rattle.std.specs.Fmt.{HasWritten, IsPlainFormatter}
use Rattle.script_run.specs.GroupLines.{ids_text}
use Rattle.script_run.proofs.group_lines.IdsDisplay.fmt.Given as goal

-- the ids so far are written
abbrev pub invariant-loop-id : goal.invariant-loop-id
invariant-loop-id g l =
    IsPlainFormatter l.initial.f → HasWritten g.W.Write.write_str_gives l.initial.f (ids_text (take l.id-index l.self.0.now)) l.f
