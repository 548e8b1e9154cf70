-- Where rows of a table are present, and what a flag's value says.
use Rattle.std.specs.Prelude.{Bool, true, ℤ, nat_abs, ◌==◌, ◌&&◌}
use Rattle.expgolomb.specs.Grammar.{Row}

abbrev pub always : {S : Type 0} → S → Bool
always s = true

-- a flag from its value
abbrev pub flag_of : ℤ → Bool
flag_of v = nat_abs v == 1

-- a row of a part of the values, where a condition on them holds
abbrev pub within : {F G S T E : Type 0} → (F → G) → (T → S) → (T → Bool) → Row F S E → Row G T E
within field part holds row = record {
  field = field row.field;
  code = row.code;
  present = λ t. holds t && row.present (part t);
  cut = row.cut;
  long = row.long;
  wrong = λ t. row.wrong (part t);
}
