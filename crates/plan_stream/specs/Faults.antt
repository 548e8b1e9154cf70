-- Why a plan isn't printed whole, and what is said of it on standard error (docs/OUTPUT.md).
use Rattle.std.specs.Prelude.{ℕ, List, []}
use Rattle.console_io.specs.Messages.{out_of_memory, unread_text}
use Rattle.console_io.specs.declared.chunks.PrintFault.{PrintFault}
use Rattle.console_io.specs.declared.chunks.PrintFault.TheVariants as print
use Rattle.console_io.specs.declared.input.InputFault.{InputFault}
use Rattle.console_io.specs.declared.input.InputFault.TheVariants as input
use Rattle.plan_stream.specs.declared.fault.PlanFault.{PlanFault}
use Rattle.plan_stream.specs.declared.fault.PlanFault.TheVariants.{Unread, Refused, Memory, Unwritten}

-- of the input
abbrev pub fault_of_input : InputFault → PlanFault
fault_of_input input.Unread = Unread
fault_of_input input.Memory = Memory

-- of the printing of lines
abbrev pub fault_of_print : PrintFault → PlanFault
fault_of_print print.Memory = Memory
fault_of_print print.Unwritten = Unwritten

-- what is said of the stream of this name; nothing where its refusal is printed, or it is the
-- writer that takes no more
abbrev pub plan_fault_text : List ℕ → PlanFault → List ℕ
plan_fault_text name Unread = unread_text name
plan_fault_text name (Refused refusal) = []
plan_fault_text name Memory = out_of_memory
plan_fault_text name Unwritten = []
