-- Why the edits of a group aren't made from what a caller asks for.
use Rattle.std.specs.Prelude.{ℕ, List, ⊤}
use Rattle.c_calls.specs.declared.grouping.GivenFault.{GivenFault}
use Rattle.c_calls.specs.declared.grouping.GivenFault.TheVariants.{Memory, NotAnEdit}
use Rattle.c_calls.specs.declared.grouping.GivenEdit.{GivenEdit}
use Rattle.c_calls.specs.Grouping.{IsNoEdit}

-- one of them is no edit, or memory was refused
abbrev pub IsGivenFault : List ℕ → List GivenEdit → GivenFault → Type 0
IsGivenFault texts given (NotAnEdit index) = IsNoEdit texts given index
IsGivenFault texts given Memory = ⊤
