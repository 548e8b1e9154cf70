-- There are as many states as places.
use Rattle.std.proofs.Common.{◌≡◌, ℕ, Vec, length, arith}
use Rattle.std.specs.Global.{Global}
use Rattle.checkpoints.specs.Invariants.{IsSound}

pub same_length : {S : Type 0} (places : Vec ℕ Global) (states : Vec S Global) (spare : ℕ) → IsSound places states spare → length states.items ≡ length places.items
same_length places states spare kept = omega (arith, places.ok.0, states.ok.0, kept.same)
