-- The calls that are made.
use Rattle.std.specs.Prelude.{ℕ, List, codes, Option, Some, None, if◌then◌else◌}
use Rattle.std.specs.Str.{bytes_eq}
use Rattle.timed_calls.specs.declared.asked.Call.{Call}
use Rattle.timed_calls.specs.declared.asked.Call.TheVariants.{Job, Show, UnitRequest, Edit, JobRequest}

-- the call of a name
abbrev pub call_named : List ℕ → Option Call
call_named name =
    if bytes_eq name (codes "job") then Some Job
    else if bytes_eq name (codes "show") then Some Show
    else if bytes_eq name (codes "unit_request") then Some UnitRequest
    else if bytes_eq name (codes "edit") then Some Edit
    else if bytes_eq name (codes "job_request") then Some JobRequest
    else None
