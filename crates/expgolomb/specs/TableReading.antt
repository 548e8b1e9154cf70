-- Reading a syntax table: what stands at a place as a function of it.
use Rattle.std.specs.Prelude.{ℕ, List, [], ◌∷◌, drop, Option, Some, None, Result, Ok, Err, ℤ, pos, if◌then◌else◌}
use Rattle.std.specs.List.{list_any}
use Rattle.expgolomb.specs.declared.fault.CodeFault.{CodeFault}
use Rattle.expgolomb.specs.declared.fault.CodeFault.TheVariants.{Cut, TooLong}
use Rattle.expgolomb.specs.Bits.{Place}
use Rattle.expgolomb.specs.Reading.{fixed_at, ue_at, se_at}
use Rattle.h264_types.specs.Chains.{◌>>=◌}
use Rattle.expgolomb.specs.Grammar.{Code, Fixed, Unsigned, Signed, MoreData, Row}

abbrev pub unsigned : {E : Type 0} → Result (ℕ × Place) E → Result (ℤ × Place) E
unsigned (Ok x) = Ok (pos x.0, x.1)
unsigned (Err e) = Err e

-- a value and the place after its code
abbrev pub code_at : Code → Place → Result (ℤ × Place) CodeFault
code_at (Fixed n) p = unsigned (fixed_at n p)
code_at Unsigned p = unsigned (ue_at p)
code_at Signed p = se_at p
code_at MoreData p = Ok (if list_any (λ bit. bit) (drop 1 p.rest) then pos 1 else pos 0, p)

abbrev pub in_range : {V E : Type 0} → Option E → V → Result V E
in_range None v = Ok v
in_range (Some e) v = Err e

-- the fault of a code that is cut or too long, or what the value is worth
abbrev pub checked : {E : Type 0} → E → E → (ℤ → Option E) → Result (ℤ × Place) CodeFault → Result (ℤ × Place) E
checked cut long wrong (Ok x) = in_range (wrong x.0) x
checked cut long wrong (Err Cut) = Err cut
checked cut long wrong (Err TooLong) = Err long

-- a value of this code, and the place after it
unfoldable pub value_at : {E : Type 0} → Code → E → E → (ℤ → Option E) → Place → Result (ℤ × Place) E
value_at code cut long wrong p = checked cut long wrong (code_at code p)

-- the field of a row that is present
abbrev pub field_at : {F S E : Type 0} → Row F S E → S → Place → Result (ℤ × Place) E
field_at row s p = value_at row.code row.cut row.long (row.wrong s) p

-- the values of the rows after the values s, and the place after them, or the first fault
unfoldable pub rows_at : {F S E : Type 0} → (F → ℤ → S → S) → List (Row F S E) → S → Place → Result (S × Place) E
rows_at take [] s p = Ok (s, p)
rows_at take (row ∷ rows) s p =
    if row.present s then field_at row s p >>= (λ x. rows_at take rows (take row.field x.0 s) x.1) else rows_at take rows s p
