-- Units that are looked at one after the other.
use Rattle.std.proofs.Common.{◌≡◌, ℕ, ◌+◌, ◌<◌, ◌≤◌, Some, subst, inl, inr, arith}
use Rattle.std.specs.Prelude.{slice_get}
use Rattle.std.proofs.Math.Nat.{eq-or-lt_of_le}
use Rattle.decode_jobs.specs.Keys.{Key}
use Rattle.stream_edits.specs.Streams.{ids_of}
use Rattle.stream_session.specs.Machines.{Machine}
use Rattle.stream_session.specs.Showing.{Shows}
use Rattle.stream_session.specs.declared.showing.Shown.{Shown}
use Rattle.stream_session.specs.declared.showing.Shown.TheVariants as shown
use Rattle.worker_jobs.specs.Rests.{IsSettled}

-- one unit more is settled
pub settled_past : {P : Type 0} (IsOf : Key → P → Type 0) (machine : Machine P) (from at : ℕ) (answer : Shown P)
    → ((id : ℕ) → slice_get (ids_of machine.register.stream) at ≡ Some id → Shows IsOf machine id answer)
    → (answer ≡ shown.Pending → ⊥)
    → ((k id : ℕ) → from ≤ k → k < at → slice_get (ids_of machine.register.stream) k ≡ Some id → IsSettled IsOf machine id)
    → (k id : ℕ) → from ≤ k → k < at + 1 → slice_get (ids_of machine.register.stream) k ≡ Some id → IsSettled IsOf machine id
settled_past {P} IsOf machine from at answer shows settled before k id above low is =
    let within : k ≤ at = omega arith in
    elim (eq-or-lt_of_le within) as (λ _. IsSettled IsOf machine id) [
      | inl last ↦
          (answer, shows id (subst (λ (n : ℕ). slice_get (ids_of machine.register.stream) n ≡ Some id) last is), settled)
      | inr less ↦ before k id above less is
    ]
