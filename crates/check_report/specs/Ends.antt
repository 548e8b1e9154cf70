-- How a check ends that doesn't succeed (docs/OUTPUT.md).
use Rattle.std.specs.Prelude.{◌≡◌, ℕ, List, [], Option, IfSome, Result, ⊤}
use Rattle.console_io.specs.Messages.{Tells, input_fault_text, print_fault_text}
use Rattle.console_io.specs.declared.chunks.PrintFault.{PrintFault}
use Rattle.console_io.specs.declared.chunks.PrintFault.TheVariants as print
use Rattle.console_io.specs.declared.input.InputFault.{InputFault}
use Rattle.stream_check.specs.CheckResult.{IsFine}

-- why it doesn't succeed: the input wasn't read, what was found wasn't printed, or there is something to complain of
pub data CheckEnd : Type 0 where
  unread : InputFault → CheckEnd
  unprinted : PrintFault → CheckEnd
  faulty : CheckEnd

-- what is so then of the text of the input: a writer that isn't said to have taken all refused
abbrev pub EndsBy : List ℕ → CheckEnd → Type 0 → Type 0
EndsBy text (unread fault) refuses = ⊤
EndsBy text (unprinted fault) refuses = fault ≡ print.Unwritten → refuses
EndsBy text faulty refuses = ¬ IsFine text

-- what is told on standard error of the input of this name: nothing of what was printed
abbrev pub end_text : List ℕ → CheckEnd → List ℕ
end_text name (unread fault) = input_fault_text name fault
end_text name (unprinted fault) = print_fault_text fault
end_text name faulty = []

-- it ended so of an input with this text, and that was told
abbrev pub FailsCheck : {T : Type 0} → Option (List ℕ) → List ℕ → Result T PrintFault → Type 0 → Type 0
    → Option (List ℕ) → Option (List ℕ) → Type 0
FailsCheck text name told refuses mute had has =
    (end : CheckEnd) × IfSome text (λ text. EndsBy text end refuses) × Tells told mute had has (end_text name end)

-- the same of a text that was read, whatever the input's name
abbrev pub FailsText : {T : Type 0} → List ℕ → Result T PrintFault → Type 0 → Type 0 → Option (List ℕ) → Option (List ℕ) → Type 0
FailsText text told refuses mute had has =
    (end : CheckEnd) × EndsBy text end refuses × ((name : List ℕ) → Tells told mute had has (end_text name end))
