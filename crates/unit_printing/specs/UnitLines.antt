-- The lines of a unit (docs/OUTPUT.md).
use Rattle.std.specs.Prelude.{ℕ, ◌++◌, List, [], Option, codes, decimal}
use Rattle.std.specs.Option.{unwrap_or}
use Rattle.unit_outcomes.specs.declared.validity_fault.ValidityFault.{ValidityFault}
use Rattle.unit_outcomes.specs.declared.outcome.Outcome.{Outcome}
use Rattle.unit_outcomes.specs.declared.outcome.Outcome.TheVariants.{Plan, Fault, Empty}
use Rattle.unit_outcomes.specs.Names.{name_of}
use Rattle.unit_outcomes.specs.Numbers.{number_of}
use Rattle.unit_printing.specs.declared.lines.lines.UnitHead.{UnitHead}
use Rattle.unit_printing.specs.declared.lines.lines.UnitLines.{UnitLines}
use Rattle.unit_printing.specs.Lines.{plan_head, plan_tail}

-- the line of a unit with a fault
abbrev pub fault_text : ℕ → ValidityFault → List ℕ
fault_text id fault = codes "unit " ++ (decimal id ++ (codes " fault " ++ (decimal (number_of fault)
    ++ (codes " " ++ (name_of fault ++ codes "\n")))))

-- the line of a unit without a slice
abbrev pub empty_text : ℕ → List ℕ
empty_text id = codes "unit " ++ (decimal id ++ codes " no picture\n")

-- the lines of a unit's outcome up to its position, which a plan has; nothing where it has none
abbrev pub outcome_head : ℕ → Option ℕ → Outcome → List ℕ
outcome_head id position (Plan plan) = plan_head id (unwrap_or position 0)
outcome_head id position (Fault fault) = []
outcome_head id position Empty = []

-- and after it, which doesn't depend on the position
abbrev pub outcome_tail : ℕ → Outcome → List ℕ
outcome_tail id (Plan plan) = plan_tail id plan
outcome_tail id (Fault fault) = fault_text id fault
outcome_tail id Empty = empty_text id

-- the lines of a unit's outcome
abbrev pub outcome_lines : ℕ → Option ℕ → Outcome → List ℕ
outcome_lines id position outcome = outcome_head id position outcome ++ outcome_tail id outcome

-- the lines of a unit
abbrev pub unit_lines : UnitLines → List ℕ
unit_lines lines = outcome_lines lines.id lines.position lines.outcome.now

-- up to the position
abbrev pub unit_head : UnitHead → List ℕ
unit_head head = outcome_head head.id head.position head.outcome.now
