-- A seat's answers to commands, by the files that a source gives.
use Rattle.std.proofs.Common.{◌≡◌, ℕ, Bool, List}
use Rattle.console_io.specs.Inputs.{Files}
use Rattle.decode_pool.specs.declared.seat.Seat.{Seat}
use Rattle.edit_script.specs.declared.seat_commands.SeatCommand.{SeatCommand}
use Rattle.edit_script.specs.declared.seat_commands.SeatCommand.TheVariants as seat
use Rattle.script_run.specs.SharedRunning.{Answers}

module _ (files : Files) (hex : Bool) where
  -- an answer by others that agree by name is one by these
  pub Answers-same : (others : Files) → ((name : List ℕ) → others name ≡ files name)
      → (old : Seat) (it : SeatCommand) (lines : List ℕ) (new : Seat)
      → Answers others hex old it lines new → Answers files hex old it lines new
  Answers-same others same old (seat.Edit edit) lines new answers = answers
  Answers-same others same old (seat.Group edits) lines new answers = answers
  Answers-same others same old (seat.Load path) lines new answers =
      (answers.0, rw (same path.now) at answers.1, answers.2)
  Answers-same others same old seat.Settle lines new answers = answers
  Answers-same others same old (seat.SettleFor number) lines new answers = answers
  Answers-same others same old (seat.Show number) lines new answers = answers
  Answers-same others same old (seat.Drop number) lines new answers = answers
  Answers-same others same old seat.Clear lines new answers = answers
  Answers-same others same old (seat.Want ids) lines new answers = answers
  Answers-same others same old (seat.Rest rest) lines new answers = answers
