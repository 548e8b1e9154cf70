-- What a function of the code answers, by what reading a table gives.
use Rattle.std.specs.Prelude.{◌≡◌, Result, Ok, Err, ℤ, pos, Bool, if◌then◌else◌}
use Rattle.expgolomb.specs.Bits.{Place}
use Rattle.param_sets.specs.declared.fault.SetFault.{SetFault}
use Rattle.param_sets.specs.declared.fault.SetFault.TheVariants.{Memory}

-- the fault is the one that was read, unless memory ran out
abbrev pub Refuses : {Y : Type 0} → SetFault → Result Y SetFault → Type 0
Refuses Memory read = Unit {0}
Refuses e read = read ≡ Err e

-- what was read was stored, and the reader is past it, unless memory ran out
abbrev pub Stores : {X Y : Type 0} → (X → Y) → Result X SetFault → Place → Result (Y × Place) SetFault → Type 0
Stores view (Ok x) after read = read ≡ Ok (view x, after)
Stores view (Err e) after read = Refuses e read
