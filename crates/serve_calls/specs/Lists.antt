-- Lists that grow by what there is.
use Rattle.std.specs.Prelude.{List, [], Option}
use Rattle.std.specs.List.{cons_option}

-- the item, if there is one
abbrev pub listed : {T : Type 0} → Option T → List T
listed item = cons_option item []
