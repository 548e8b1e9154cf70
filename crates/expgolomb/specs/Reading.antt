-- What a call answers as a function of the place: the form that laws about whole tables of codes cite.
use Rattle.std.specs.Prelude.{◌≡◌, ℕ, ◌+◌, ◌-◌, not, length, take, Result, Ok, Err, nat_le, if◌then◌else◌, ℤ}
use Rattle.std.specs.List.{prefix_len}
use Rattle.expgolomb.specs.declared.fault.CodeFault.{CodeFault}
use Rattle.expgolomb.specs.declared.fault.CodeFault.TheVariants.{Cut, TooLong}
use Rattle.expgolomb.specs.Bits.{number, Place, skip}
use Rattle.expgolomb.specs.Codes.{signed}

-- the next n bits as a number, and the place after them
abbrev pub fixed_at : ℕ → Place → Result (ℕ × Place) CodeFault
fixed_at n p = if nat_le n (length p.rest) then Ok (number (take n p.rest), skip n p) else Err Cut

-- the value whose successor was read
abbrev pub before : Result (ℕ × Place) CodeFault → Result (ℕ × Place) CodeFault
before (Ok x) = Ok (x.0 - 1, x.1)
before (Err e) = Err e

-- the ue(v) value, and the place after its code: n zeros, and n + 1 bits that stand for the value's successor
unfoldable pub ue_at : Place → Result (ℕ × Place) CodeFault
ue_at p =
    let zeros = prefix_len not p.rest in
    if nat_le 32 zeros then Err TooLong else before (fixed_at (zeros + 1) (skip zeros p))

-- the signed value that was read as an unsigned one
abbrev pub with_sign : Result (ℕ × Place) CodeFault → Result (ℤ × Place) CodeFault
with_sign (Ok x) = Ok (signed x.0, x.1)
with_sign (Err e) = Err e

-- the se(v) value, and the place after its code
unfoldable pub se_at : Place → Result (ℤ × Place) CodeFault
se_at p = with_sign (ue_at p)

-- a call answers what reading gives, and moves past it; an error leaves the reader where it was
abbrev pub Gives : {V W : Type 0} → (V → W) → Result V CodeFault → Place → Place → Result (W × Place) CodeFault → Type 0
Gives view (Ok v) old new read = read ≡ Ok (view v, new)
Gives view (Err e) old new read = (read ≡ Err e) × (new ≡ old)
