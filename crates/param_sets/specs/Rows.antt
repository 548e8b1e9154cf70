-- The rows of the tables of parameter sets: a field, its code, where it is present, its range.
use Rattle.std.specs.Prelude.{ℕ, Bool, true, ℤ, Option, nat_abs, ◌==◌, ◌&&◌}
use Rattle.param_sets.specs.declared.fault.SetFault.{SetFault}
use Rattle.param_sets.specs.declared.fault.SetFault.TheVariants.{Cut}
use Rattle.expgolomb.specs.Grammar.{Fixed, Unsigned, Signed, Row}
use Rattle.expgolomb.specs.Ranges.{any, at_most, between}

-- u(n), any value
abbrev pub u : {F S : Type 0} → F → ℕ → (S → Bool) → Row F S SetFault
u field n present =
    record { field = field; code = Fixed n; present = present; cut = Cut; long = Cut; wrong = λ s. any }

-- u(n), whose values have this range
abbrev pub u_of : {F S : Type 0} → F → ℕ → (S → Bool) → (ℤ → Option SetFault) → Row F S SetFault
u_of field n present range =
    record { field = field; code = Fixed n; present = present; cut = Cut; long = Cut; wrong = λ s. range }

-- ue(v), whose values have this range, and the fault of a code that is too long
abbrev pub ue_of : {F S : Type 0} → F → (S → Bool) → (ℤ → Option SetFault) → SetFault → Row F S SetFault
ue_of field present range long =
    record { field = field; code = Unsigned; present = present; cut = Cut; long = long; wrong = λ s. range }

-- ue(v), at most this much
abbrev pub ue : {F S : Type 0} → F → (S → Bool) → ℕ → SetFault → Row F S SetFault
ue field present most fault = ue_of field present (at_most most fault) fault

-- se(v), from the least to the most
abbrev pub se : {F S : Type 0} → F → (S → Bool) → ℤ → ℤ → SetFault → Row F S SetFault
se field present least most fault =
    record { field = field; code = Signed; present = present; cut = Cut; long = fault; wrong = λ s. between least most fault }

-- se(v), any value
abbrev pub se_any : {F S : Type 0} → F → (S → Bool) → SetFault → Row F S SetFault
se_any field present long =
    record { field = field; code = Signed; present = present; cut = Cut; long = long; wrong = λ s. any }
