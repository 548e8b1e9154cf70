-- What going over a unit adds to the keys.
use Rattle.std.specs.Prelude.{◌≡◌, ◌⊎◌, ℕ, List}
use Rattle.h264_controls.specs.declared.request.Request.{Request}
use Rattle.h264_controls.specs.declared.request.RequestBody.{RequestBody}
use Rattle.unit_outcomes.specs.declared.outcome.Outcome.{Outcome}
use Rattle.unit_outcomes.specs.declared.outcome.Outcome.TheVariants.{Plan, Fault, Empty}
use Rattle.decode_jobs.specs.Interning.{IsInterned}
use Rattle.decode_jobs.specs.KeyMaps.{KeyMap, tree_of}
use Rattle.decode_jobs.specs.Nodes.{NodeOf}
use Rattle.decode_jobs.specs.Keys.{Key, bodies_of}
use Rattle.picture_keys.specs.Numbered.{Numbers, numbers_named}

-- the node of the key of requests, over the numbers of the keys of the units that they name
abbrev pub node_over : Numbers → List Request → NodeOf (List RequestBody)
node_over numbers requests = record { content = bodies_of requests; entries = numbers_named numbers requests }

-- the keys are as they were, or the key was interned
abbrev pub AddsAtMostKey : KeyMap (List RequestBody) → Key → KeyMap (List RequestBody) → Type 0
AddsAtMostKey keys key more = (more ≡ keys) ⊎ ((number : ℕ) × IsInterned keys key number more)

-- to the keys comes at most that of a unit, and none where it isn't valid
abbrev pub AddsAtMost : KeyMap (List RequestBody) → Numbers → Outcome → KeyMap (List RequestBody) → Type 0
AddsAtMost keys numbers (Plan plan) more = AddsAtMostKey keys (tree_of keys (node_over numbers plan.requests)) more
AddsAtMost keys numbers (Fault fault) more = more ≡ keys
AddsAtMost keys numbers Empty more = more ≡ keys
