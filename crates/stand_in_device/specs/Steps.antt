-- How a call answers: what it leaves, or the first of its refusals whose condition holds.
use Rattle.std.specs.Prelude.{◌≡◌, Bool, List, [], ◌∷◌, if◌then◌else◌, Option, None, Some, Result, Ok, Err}
use Rattle.stand_in_device.specs.declared.m2m_queues.fault.QueueFault.{QueueFault}
use Rattle.stand_in_device.specs.Machine.{Machine}

-- what a call leaves, or why it is refused
abbrev pub Step : Type 0 → Type 0
Step C = Result (Machine C) QueueFault

module _ {C : Type 0} where
  -- the call is refused by the first of these that holds, and else leaves this
  abbrev pub unless : List (Bool × QueueFault) → Machine C → Step C
  unless [] new = Ok new
  unless (refusal ∷ later) new = if refusal.0 then Err refusal.1 else unless later new

  -- the call leaves what the step says, or is refused as the step is and changes nothing
  abbrev pub Follows : {A : Type 0} → Step C → Result A QueueFault → Machine C → Machine C → Type 0
  Follows step (Ok _) old new = step ≡ Ok new
  Follows step (Err fault) old new = (step ≡ Err fault) × (new ≡ old)

-- what is there is answered, or else it is refused so
abbrev pub Looks : {A : Type 0} → Option A → QueueFault → Result A QueueFault → Type 0
Looks (Some value) fault answer = answer ≡ Ok value
Looks None fault answer = answer ≡ Err fault
