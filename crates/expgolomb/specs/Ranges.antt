-- Ranges of values, as the rows of a table state them: nothing, or the fault.
use Rattle.std.specs.Prelude.{ℕ, Option, Some, None, ℤ, pos, negsuc, nat_le, int_le, ◌&&◌, if◌then◌else◌}

-- any value
abbrev pub any : {E : Type 0} → ℤ → Option E
any v = None

-- at most this much
abbrev pub at_most : {E : Type 0} → ℕ → E → ℤ → Option E
at_most most e (pos k) = if nat_le k most then None else Some e
at_most most e (negsuc k) = None

-- from the least to the most
abbrev pub between : {E : Type 0} → ℤ → ℤ → E → ℤ → Option E
between least most e v = if int_le least v && int_le v most then None else Some e
