-- Scripts that a seat runs (docs/OUTPUT.md).
use Rattle.std.specs.Prelude.{ℕ, List}
use Rattle.edit_script.specs.declared.commands.Command.{Command}
use Rattle.edit_script.specs.declared.commands.Command.TheVariants as command
use Rattle.edit_script.specs.declared.seat_commands.SeatCommand.{SeatCommand}
use Rattle.edit_script.specs.declared.seat_commands.SeatCommand.TheVariants as seat
use Rattle.edit_script.specs.Kinds.{HasFirstWrongFor, IsScriptOf}

-- the command that a seat's is among all
abbrev pub of_seat : SeatCommand → Command
of_seat (seat.Edit edit) = command.Edit edit
of_seat (seat.Group edits) = command.Group edits
of_seat (seat.Load path) = command.Load path
of_seat seat.Settle = command.Settle
of_seat (seat.SettleFor number) = command.SettleFor number
of_seat (seat.Show number) = command.Show number
of_seat (seat.Drop number) = command.Drop number
of_seat seat.Clear = command.Clear
of_seat (seat.Want ids) = command.Want ids
of_seat (seat.Rest rest) = command.Rest rest

-- the text is a script of these commands of a seat
abbrev pub IsSeatScript : List ℕ → List SeatCommand → Type 0
IsSeatScript text commands = IsScriptOf of_seat text commands

-- the first line that is wrong, or is a command that is none of a seat's, has this number
abbrev pub HasFirstWrongForSeat : List ℕ → ℕ → Type 0
HasFirstWrongForSeat text number = HasFirstWrongFor of_seat text number
