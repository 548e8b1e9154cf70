-- The names of refusals.
use Rattle.std.specs.Prelude.{ℕ, List, codes}
use Rattle.access_unit.specs.Names.{name_of as name_of_text}
use Rattle.stream_edits.specs.declared.refusals.EditRefused.{EditRefused}
use Rattle.stream_edits.specs.declared.refusals.EditRefused.TheVariants.{Unit, NoSuchUnit, StreamFull, IdsSpent, Memory}

-- the name that is printed
abbrev pub name_of : EditRefused → List ℕ
name_of (Unit refused) = name_of_text refused
name_of NoSuchUnit = codes "NoSuchUnit"
name_of StreamFull = codes "StreamFull"
name_of IdsSpent = codes "IdsSpent"
name_of Memory = codes "Memory"
