-- What is said on standard error of a script that isn't run to its end (docs/OUTPUT.md).
use Rattle.std.specs.Prelude.{ℕ, List, [], codes, decimal}
use Rattle.console_io.specs.Messages.{line_text, out_of_memory, unread_text}
use Rattle.script_run.specs.declared.run_fault.RunFault.{RunFault}
use Rattle.script_run.specs.declared.run_fault.RunFault.TheVariants.{Unread, Script, Memory, Unwritten}

-- that the line of this number is no command
abbrev pub script_fault_text : ℕ → List ℕ
script_fault_text number = line_text (codes "script fault at line ") (decimal number)

-- why a script isn't run to its end; nothing where it is the writer that takes no more
abbrev pub run_fault_text : RunFault → List ℕ
run_fault_text (Unread name) = unread_text name.now
run_fault_text (Script number) = script_fault_text number
run_fault_text Memory = out_of_memory
run_fault_text Unwritten = []
