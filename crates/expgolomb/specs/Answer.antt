-- What a function of the code answers, by what reading a table gives.
use Rattle.std.specs.Prelude.{◌≡◌, Result, Ok, Err, ℤ, pos, Bool, if◌then◌else◌}
use Rattle.expgolomb.specs.Bits.{Place}

-- the answer is what was read, and the reader is past it; or it is the fault that was read
abbrev pub Reads : {X Y E : Type 0} → (X → Y) → Result X E → Place → Result (Y × Place) E → Type 0
Reads view (Ok x) after read = read ≡ Ok (view x, after)
Reads view (Err e) after read = read ≡ Err e

-- a flag as a value
abbrev pub flag_value : Bool → ℤ
flag_value b = if b then pos 1 else pos 0
