-- How the run of a seat's script ends before the script does (docs/OUTPUT.md).
use Rattle.std.specs.Prelude.{◌≡◌, ℕ, Bool, List, Option, ◌⊎◌}
use Rattle.std.specs.Borrow.{Bor}
use Rattle.std.specs.Io.KnownBytes.{Keeps}
use Rattle.console_io.specs.Inputs.{Files}
use Rattle.decode_pool.specs.declared.seat.Seat.{Seat}
use Rattle.edit_script.specs.SeatScripts.{HasFirstWrongForSeat, IsSeatScript}
use Rattle.edit_script.specs.declared.seat_commands.SeatCommand.{SeatCommand}
use Rattle.edit_script.specs.declared.seat_commands.SeatCommand.TheVariants as seat
use Rattle.script_run.specs.RunFaults.{IsLoadFault}
use Rattle.script_run.specs.Sequences.{StopsAmong}
use Rattle.script_run.specs.declared.run_fault.RunFault.{RunFault}
use Rattle.script_run.specs.declared.run_fault.RunFault.TheVariants.{Unread, Script, Memory}
use Rattle.script_run.specs.SharedRunning.{Answers, IsNew}

-- why a command isn't answered; that no worker is left while pictures are due is told as lack of
-- memory is
abbrev pub IsCommandFault : SeatCommand → RunFault → Type 0
IsCommandFault (seat.Edit edit) fault = fault ≡ Memory
IsCommandFault (seat.Group edits) fault = fault ≡ Memory
IsCommandFault (seat.Load path) fault = IsLoadFault path fault
IsCommandFault seat.Settle fault = fault ≡ Memory
IsCommandFault (seat.SettleFor number) fault = fault ≡ Memory
IsCommandFault (seat.Show number) fault = fault ≡ Memory
IsCommandFault (seat.Drop number) fault = fault ≡ Memory
IsCommandFault seat.Clear fault = fault ≡ Memory
IsCommandFault (seat.Want ids) fault = fault ≡ Memory
IsCommandFault (seat.Rest rest) fault = fault ≡ Memory

-- the commands stop at one of them: those before it were answered, and that was written
abbrev pub StopsAt : Files → Bool → Seat → List SeatCommand → RunFault → Type 0 → Option (List ℕ) → Option (List ℕ) → Type 0
StopsAt files hex from commands fault refused old new =
    StopsAmong (Answers files hex) IsCommandFault from commands fault refused old new

-- the commands aren't run to their end: a thread can't be started, which is told as lack of memory
-- is, or they stop
abbrev pub StopsRun : Files → Bool → Seat → List SeatCommand → RunFault → Type 0 → Option (List ℕ) → Option (List ℕ) → Type 0
StopsRun files hex from commands fault refused old new =
    ((fault ≡ Memory) × Keeps old new) ⊎ StopsAt files hex from commands fault refused old new

-- a text isn't run to its end: there is no memory for its commands or no thread, this line is the
-- first that is no command of a seat, or its commands stop
abbrev pub StopsText : Files → List ℕ → Bool → RunFault → Type 0 → Option (List ℕ) → Option (List ℕ) → Type 0
StopsText files text hex fault refused old new =
    ((fault ≡ Memory) × Keeps old new)
    ⊎ ((number : ℕ) × HasFirstWrongForSeat text number × (fault ≡ Script number) × Keeps old new)
    ⊎ ((commands : List SeatCommand) × (first : Seat) × IsSeatScript text commands × IsNew first
    × StopsAt files hex first commands fault refused old new)

-- the script of this name and text isn't run to its end by this fault: it can't be read, or its
-- text isn't run
abbrev pub StopsBy : Files → List ℕ → List ℕ → Bool → RunFault → Type 0 → Option (List ℕ) → Option (List ℕ) → Type 0
StopsBy files name text hex fault refused old new =
    ((lent : Bor (List ℕ)) × (lent.now ≡ name) × (fault ≡ Unread lent) × Keeps old new)
    ⊎ StopsText files text hex fault refused old new
