-- The ids of the units of references, wherever they stand.
use Rattle.std.specs.Prelude.{ℕ, List}
use Rattle.h264_controls.specs.declared.references.Ids.{Ids}
use Rattle.h264_controls.specs.declared.references.Ids.TheVariants.{Few, Many}

-- the ids, in order
abbrev pub ids_in : Ids → List ℕ
ids_in (Few ids) = ids
ids_in (Many ids) = ids.items
