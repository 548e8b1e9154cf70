use Rattle.edit_script.proofs.GroupLines.{alone}
use Rattle.edit_script.proofs.groups.read_front.Goals as goal

pub returns-in-Command : goal.returns-in-Command
returns-in-Command c =
    alone c.args.lines.now _ c.requires c.in-Command.command (rw c.in-Command.is at c.in_ok-command.ensures)
