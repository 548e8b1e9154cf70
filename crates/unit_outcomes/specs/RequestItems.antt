-- The requests of a unit, wherever they stand.
use Rattle.std.specs.Prelude.{List}
use Rattle.h264_controls.specs.declared.request.Request.{Request}
use Rattle.unit_outcomes.specs.declared.requests.Items.{Items}
use Rattle.unit_outcomes.specs.declared.requests.Items.TheVariants.{One, Many}

-- the requests, in the order of the slices
abbrev pub requests_in : Items → List Request
requests_in (One requests) = requests
requests_in (Many requests) = requests.items
