-- How the commands of a script are written (docs/OUTPUT.md), in sentences without their full stops.
use Rattle.std.specs.Prelude.{List, ℕ, codes, Option, Some, None, if◌then◌else◌}
use Rattle.std.specs.Str.{bytes_eq}

-- how the edits and their groups are
abbrev pub edit_form : List ℕ → Option (List ℕ)
edit_form name =
    if bytes_eq name (codes "insert") then Some (codes "insert takes first or after ID, and pairs of hexadecimal digits")
    else if bytes_eq name (codes "delete") then Some (codes "delete takes the id of a unit")
    else if bytes_eq name (codes "replace") then Some (codes "replace takes the id of a unit, and pairs of hexadecimal digits")
    else if bytes_eq name (codes "group") then Some (codes "group stands alone in its line and in no group, and an end follows")
    else if bytes_eq name (codes "end") then Some (codes "end stands alone in its line, behind the edits of a group")
    else None

-- how those are that every run has, in no group
abbrev pub common_form : List ℕ → Option (List ℕ)
common_form name =
    if bytes_eq name (codes "load") then Some (codes "load takes the path of a file, and is no edit")
    else if bytes_eq name (codes "settle") then Some (codes "settle takes the id of a unit or nothing, and is no edit")
    else if bytes_eq name (codes "show") then Some (codes "show takes the id of a unit, and is no edit")
    else if bytes_eq name (codes "drop") then Some (codes "drop takes the id of a unit, and is no edit")
    else if bytes_eq name (codes "clear") then Some (codes "clear takes nothing, and is no edit")
    else None

-- how those are that a run has without workers, in no group
abbrev pub alone_form : List ℕ → Option (List ℕ)
alone_form name =
    if bytes_eq name (codes "unit") then Some (codes "unit takes the id of a unit, and is for run without workers")
    else if bytes_eq name (codes "json") then Some (codes "json takes the id of a unit, and is for run without workers")
    else if bytes_eq name (codes "take") then Some (codes "take takes the id of a unit or nothing, and is for run without workers")
    else if bytes_eq name (codes "land") then Some (codes "land takes the number of a job, and is for run without workers")
    else if bytes_eq name (codes "give") then Some (codes "give takes the number of a job, and is for run without workers")
    else if bytes_eq name (codes "mark") then Some (codes "mark takes nothing, and is for run without workers")
    else if bytes_eq name (codes "altered") then Some (codes "altered takes the id of a unit, and is for run without workers")
    else None

-- how those are that it has beside workers, in no group
abbrev pub beside_form : List ℕ → Option (List ℕ)
beside_form name =
    if bytes_eq name (codes "want") then Some (codes "want takes ids of units, and is for runs beside workers")
    else if bytes_eq name (codes "rest") then Some (codes "rest takes on or off, and is for runs beside workers")
    else None
