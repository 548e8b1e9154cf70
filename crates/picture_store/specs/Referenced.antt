-- Which references a job has, and in which order.
use Rattle.std.specs.Prelude.{◌≡◌, ℕ, ◌==◌, Bool, false, not, List, [], ◌∷◌, Option, None, Some, filter, flat_map, map, if◌then◌else◌}
use Rattle.std.specs.List.{list_any}
use Rattle.h264_controls.specs.declared.request.Request.{Request}
use Rattle.h264_controls.specs.References.{timestamp}
use Rattle.decode_jobs.specs.declared.input.Reference.{Reference}
use Rattle.decode_jobs.specs.Inputs.{InputValue}
use Rattle.decode_jobs.specs.Keys.{named_by_all}

-- each of the numbers once, where it stands first
abbrev pub each_once : List ℕ → List ℕ
each_once [] = []
each_once (number ∷ more) = number ∷ filter (λ other. not (other == number)) (each_once more)

-- the frames in the decoded picture buffers that requests carry, each once, in their order
abbrev pub frames_of : List Request → List ℕ
frames_of requests = each_once (flat_map (λ request. request.references) requests)

-- whether an entry names the frame
abbrev pub names : ℕ → Option ℕ → Bool
names frame None = false
names frame (Some unit) = unit == frame

-- those of the frames that an entry names
abbrev pub frames_named : List ℕ → List (Option ℕ) → List ℕ
frames_named frames entries = filter (λ frame. list_any (names frame) entries) frames

-- what is added to numbers of which each stands once: this one, unless it is there
abbrev pub added : ℕ → List ℕ → List ℕ
added number numbers = if list_any (λ other. other == number) numbers then [] else number ∷ []

module _ {P : Type 0} where
  -- the timestamps of references
  abbrev pub times_of : List (Reference P) → List ℕ
  times_of references = map (λ reference. reference.timestamp) references

  -- the references are the frames that the lists name, each once, in the order of the decoded
  -- picture buffer
  abbrev pub AreInOrder : InputValue P → Type 0
  AreInOrder input =
      times_of input.references ≡ map timestamp (frames_named (frames_of input.requests) (named_by_all input.requests))
