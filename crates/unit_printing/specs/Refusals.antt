-- The line of a stream that is refused (docs/OUTPUT.md).
use Rattle.std.specs.Prelude.{ℕ, ◌++◌, List, codes, decimal}
use Rattle.access_unit.specs.Names.{name_of}
use Rattle.access_unit.specs.Numbers.{number_of}
use Rattle.access_unit.specs.declared.stream_units.Refusal.{Refusal}
use Rattle.access_unit.specs.declared.stream_units.Refusal.TheVariants.{Split, Unit, StreamFull}

-- the line of a refused stream
abbrev pub refusal_text : Refusal → List ℕ
refusal_text Split = codes "refused 1 Split\n"
refusal_text (Unit index refused) = codes "unit " ++ (decimal index ++ (codes " refused "
    ++ (decimal (number_of refused) ++ (codes " " ++ (name_of refused ++ codes "\n")))))
refusal_text StreamFull = codes "refused 17 StreamFull\n"
