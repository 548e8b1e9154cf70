-- The parameters of methods (docs/SERVER.md).
use Rattle.std.specs.Prelude.{ℕ, List, codes}
use Rattle.serve_requests.specs.declared.parameter.Parameter.{Parameter}
use Rattle.serve_requests.specs.declared.parameter.Parameter.TheVariants.{Path, Bytes, Mend, After, Id, Edits, From, Count, Controls, Position, Ids, Rest, Job}

-- the name of a parameter in a message
abbrev pub name_of : Parameter → List ℕ
name_of Path = codes "path"
name_of Bytes = codes "bytes"
name_of Mend = codes "mend"
name_of After = codes "after"
name_of Id = codes "id"
name_of Edits = codes "edits"
name_of From = codes "from"
name_of Count = codes "count"
name_of Controls = codes "controls"
name_of Position = codes "position"
name_of Ids = codes "ids"
name_of Rest = codes "rest"
name_of Job = codes "job"
