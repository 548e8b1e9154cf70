-- What planning answers, by what the fold says.
use Rattle.std.specs.Prelude.{◌≡◌, ⊤, Result, Ok, Err}
use Rattle.unit_outcomes.specs.declared.validity_fault.ValidityFault.{ValidityFault}
use Rattle.slice_reading.specs.declared.unplanned.Unplanned.{Unplanned}
use Rattle.slice_reading.specs.declared.unplanned.Unplanned.TheVariants.{Fault, Memory}

-- the fault is what the fold says; for lack of memory nothing is said
abbrev pub Ends : {Y : Type 0} → Unplanned → Result Y ValidityFault → Type 0
Ends (Fault fault) says = says ≡ Err fault
Ends Memory says = ⊤

-- the answer is what the fold says, unless memory ran out
abbrev pub AnswersAs : {X Y : Type 0} → (X → Y) → Result X Unplanned → Result Y ValidityFault → Type 0
AnswersAs view (Ok x) says = says ≡ Ok (view x)
AnswersAs view (Err stop) says = Ends stop says

abbrev pub Answers : {X : Type 0} → Result X Unplanned → Result X ValidityFault → Type 0
Answers answer says = AnswersAs (λ x. x) answer says
