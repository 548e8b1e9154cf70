-- What the fault of a part means for the run of a script.
use Rattle.std.specs.Prelude.{◌≡◌, ℕ, List, ◌⊎◌}
use Rattle.std.specs.Borrow.{Bor}
use Rattle.console_io.specs.declared.chunks.PrintFault.{PrintFault}
use Rattle.edit_script.specs.declared.session_commands.SessionCommand.{SessionCommand}
use Rattle.edit_script.specs.declared.session_commands.SessionCommand.TheVariants as command
use Rattle.console_io.specs.declared.chunks.PrintFault.TheVariants as print
use Rattle.console_io.specs.declared.input.InputFault.{InputFault}
use Rattle.console_io.specs.declared.input.InputFault.TheVariants as input
use Rattle.edit_script.specs.declared.script.ScriptFault.{ScriptFault}
use Rattle.edit_script.specs.declared.script.ScriptFault.TheVariants as script
use Rattle.script_run.specs.declared.run_fault.RunFault.{RunFault}
use Rattle.script_run.specs.declared.run_fault.RunFault.TheVariants.{Unread, Script, Memory, Unwritten}

-- of the input of this name
abbrev pub fault_of_input : Bor (List ℕ) → InputFault → RunFault
fault_of_input name input.Unread = Unread name
fault_of_input name input.Memory = Memory

-- of the printing of a line
abbrev pub fault_of_print : PrintFault → RunFault
fault_of_print print.Memory = Memory
fault_of_print print.Unwritten = Unwritten

-- of the reading of a script
abbrev pub fault_of_script : ScriptFault → RunFault
fault_of_script (script.Line number) = Script number
fault_of_script script.Memory = Memory

-- why the file of this name isn't loaded
abbrev pub IsLoadFault : Bor (List ℕ) → RunFault → Type 0
IsLoadFault name fault = (fault ≡ Memory) ⊎ (fault ≡ Unread name)

-- why a command isn't answered; that all numbers of jobs were given is told as lack of memory is
abbrev pub IsCommandFault : SessionCommand → RunFault → Type 0
IsCommandFault (command.Edit edit) fault = fault ≡ Memory
IsCommandFault (command.Group edits) fault = fault ≡ Memory
IsCommandFault (command.Load path) fault = IsLoadFault path fault
IsCommandFault (command.Unit number) fault = fault ≡ Memory
IsCommandFault (command.Json number) fault = fault ≡ Memory
IsCommandFault command.Take fault = fault ≡ Memory
IsCommandFault (command.TakeFor number) fault = fault ≡ Memory
IsCommandFault (command.Land number) fault = fault ≡ Memory
IsCommandFault (command.GiveBack number) fault = fault ≡ Memory
IsCommandFault command.Settle fault = fault ≡ Memory
IsCommandFault (command.SettleFor number) fault = fault ≡ Memory
IsCommandFault (command.Show number) fault = fault ≡ Memory
IsCommandFault (command.Drop number) fault = fault ≡ Memory
IsCommandFault command.Clear fault = fault ≡ Memory
IsCommandFault command.Mark fault = fault ≡ Memory
IsCommandFault (command.Altered number) fault = fault ≡ Memory
