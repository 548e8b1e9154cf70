-- Copies of commands.
use Rattle.std.specs.Prelude.{◌≡◌}
use Rattle.stand_in_session.specs.declared.commands.Command.{Command}
use Rattle.stand_in_session.specs.declared.commands.Command.TheVariants as commands

-- the same command; of a group, the same edits in the same order
abbrev pub IsCopy : Command → Command → Type 0
IsCopy (commands.Group edits) (commands.Group copies) = copies.items ≡ edits.items
IsCopy (commands.Group edits) copy = ⊥
IsCopy command copy = copy ≡ command
