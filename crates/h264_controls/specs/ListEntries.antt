-- The entries of a reference list of a control, wherever they stand.
use Rattle.std.specs.Prelude.{ℕ, List, Option}
use Rattle.h264_controls.specs.declared.ref_pic_list.Entries.{Entries}
use Rattle.h264_controls.specs.declared.ref_pic_list.Entries.TheVariants.{Few, Many}

-- the entries, in order
abbrev pub entries_in : Entries → List (Option ℕ)
entries_in (Few entries) = entries
entries_in (Many entries) = entries.value.items
