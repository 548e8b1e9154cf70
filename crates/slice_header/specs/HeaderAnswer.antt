-- What a function that may need memory answers, by what reading gives.
use Rattle.std.specs.Prelude.{◌≡◌, Result, Ok, Err}
use Rattle.expgolomb.specs.Bits.{Place}
use Rattle.slice_header.specs.declared.fault.HeaderFault.{HeaderFault}
use Rattle.slice_header.specs.declared.fault.HeaderFault.TheVariants.{Memory}

-- the fault is the one that was read, unless memory ran out
abbrev pub Refuses : {A : Type 0} → HeaderFault → Result A HeaderFault → Type 0
Refuses Memory read = Unit {0}
Refuses e read = read ≡ Err e

-- what was read was stored, and the reader is past it, unless memory ran out
abbrev pub Stores : {A B : Type 0} → (A → B) → Result A HeaderFault → Place → Result (B × Place) HeaderFault → Type 0
Stores view (Ok x) after read = read ≡ Ok (view x, after)
Stores view (Err e) after read = Refuses e read
