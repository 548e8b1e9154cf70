-- The rows of the tables of slice headers: a field, its code, where it is present, its range. A code that is cut is
-- Cut, and one that is too long is out of range.
use Rattle.std.specs.Prelude.{ℕ, Bool, ℤ, Option}
use Rattle.slice_header.specs.declared.fault.HeaderFault.{HeaderFault}
use Rattle.slice_header.specs.declared.fault.HeaderFault.TheVariants.{Cut, Value}
use Rattle.expgolomb.specs.Grammar.{Fixed, Unsigned, Signed, Row}
use Rattle.expgolomb.specs.Ranges.{any, at_most, between}

-- u(n), any value
abbrev pub u : {F S : Type 0} → F → ℕ → (S → Bool) → Row F S HeaderFault
u field n present =
    record { field = field; code = Fixed n; present = present; cut = Cut; long = Cut; wrong = λ s. any }

-- ue(v), whose values have this range
abbrev pub ue_of : {F S : Type 0} → F → (S → Bool) → (S → ℤ → Option HeaderFault) → Row F S HeaderFault
ue_of field present range =
    record { field = field; code = Unsigned; present = present; cut = Cut; long = Value; wrong = range }

-- ue(v), any value
abbrev pub ue_any : {F S : Type 0} → F → (S → Bool) → Row F S HeaderFault
ue_any field present = ue_of field present (λ s. any)

-- ue(v), at most this much
abbrev pub ue : {F S : Type 0} → F → (S → Bool) → ℕ → Row F S HeaderFault
ue field present most = ue_of field present (λ s. at_most most Value)

-- se(v), any value
abbrev pub se_any : {F S : Type 0} → F → (S → Bool) → Row F S HeaderFault
se_any field present =
    record { field = field; code = Signed; present = present; cut = Cut; long = Value; wrong = λ s. any }

-- se(v), from the least to the most
abbrev pub se : {F S : Type 0} → F → (S → Bool) → ℤ → ℤ → Row F S HeaderFault
se field present least most =
    record { field = field; code = Signed; present = present; cut = Cut; long = Value; wrong = λ s. between least most Value }
