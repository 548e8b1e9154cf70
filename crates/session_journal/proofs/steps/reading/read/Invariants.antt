use Rattle.std.proofs.Common.{◌≡◌, ◌≤◌, ◌++◌, ◌-◌, List, length, drop}
use Rattle.std.specs.List.{AllByRecursion}
use Rattle.session_journal.specs.declared.steps.step.RecordedStep.{RecordedStep}
use Rattle.session_journal.specs.RecordRows.{IsStep}
use Rattle.session_journal.specs.Records.{given_by_steps, lines_of_steps}
use Rattle.session_journal.proofs.ReadLemmas.{Leads}
use Rattle.session_journal.proofs.steps.reading.read.Given as goal

-- the steps of the lines so far are read, and where all are those of steps the others are left
abbrev pub invariant-loop-from : goal.invariant-loop-from
invariant-loop-from l = record {
  within : l.from ≤ length l.lines;
  few : length l.steps.items ≤ l.from;
  lines : l.lines ≡ lines_of_steps 0 1 l.steps.items ++ drop l.from l.lines;
  given : l.given ≡ given_by_steps 0 l.steps.items;
  are : AllByRecursion IsStep l.steps.items;
  only : (all : List RecordedStep) → AllByRecursion IsStep all → l.lines ≡ lines_of_steps 0 1 all → Leads l.steps.items l.given (drop l.from l.lines) all;
}

abbrev pub decreases-loop-from : goal.decreases-loop-from
decreases-loop-from l = length l.lines - l.from
