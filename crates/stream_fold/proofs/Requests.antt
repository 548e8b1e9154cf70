-- The requests that a plan makes of slices are those of one picture.
use Rattle.std.proofs.Common.{◌≡◌, ℕ, Bool, true, false, List, [], ◌∷◌, All, refl}
use Rattle.std.specs.Prelude.{◌==◌}
use Rattle.std.specs.List.{list_all}
use Rattle.std.proofs.lemmas.Bool.{eq-eqb, and_from}
use Rattle.std.proofs.lemmas.List.Elements.{All-nil, All-cons, All-head, All-tail}
use Rattle.h264_types.specs.declared.pictures.counts.Counts.{Counts}
use Rattle.h264_types.specs.declared.pictures.frames.Frame.{Frame}
use Rattle.h264_controls.specs.declared.request.Request.{Request}
use Rattle.h264_controls.specs.References.{timestamp}
use Rattle.decode_jobs.specs.Inputs.{holds_but_last, are_of_one_picture}
use Rattle.request_core.specs.Requests.{ListedSlice, request_of, requests_of}

module _ (frames : List Frame) (counts : Counts) (id : ℕ) where
  -- the requests have the timestamp of their unit
  one_timestamp : (slices : List ListedSlice) → list_all (λ request. request.timestamp == timestamp id) (requests_of frames counts id slices) ≡ true
  one_timestamp [] = refl
  one_timestamp (last ∷ []) = and_from (timestamp id == timestamp id) true (eq-eqb (timestamp id) (timestamp id) refl) refl
  one_timestamp (first ∷ second ∷ more) =
      and_from (timestamp id == timestamp id) _ (eq-eqb (timestamp id) (timestamp id) refl) (one_timestamp (second ∷ more))

  -- all but the last hold the capture buffer
  holds : (first : ListedSlice) (more : List ListedSlice) → holds_but_last (requests_of frames counts id (first ∷ more)) ≡ true
  holds first [] = refl
  holds first (second ∷ []) = refl
  holds first (second ∷ third ∷ more) = holds second (third ∷ more)

  -- where there is a slice, the requests are those of one picture
  pub one_picture : (first : ListedSlice) (more : List ListedSlice) → are_of_one_picture (requests_of frames counts id (first ∷ more)) ≡ true
  one_picture first [] = refl
  one_picture first (second ∷ more) =
      and_from (list_all (λ request. request.timestamp == timestamp id) (requests_of frames counts id (second ∷ more))) _
      (one_timestamp (second ∷ more)) (holds first (second ∷ more))

  -- what holds of the request of each slice holds of all
  pub all_requests : (P : Request → Type 0) (slices : List ListedSlice)
      → All (λ slice. (hold : Bool) → P (request_of frames counts id slice hold)) slices → All P (requests_of frames counts id slices)
  all_requests P [] all = All-nil P
  all_requests P (last ∷ []) all =
      All-cons P (request_of frames counts id last false) []
      (All-head (λ (slice : ListedSlice). (hold : Bool) → P (request_of frames counts id slice hold)) last [] all false) (All-nil P)
  all_requests P (first ∷ second ∷ more) all =
      All-cons P (request_of frames counts id first true) (requests_of frames counts id (second ∷ more))
      (All-head (λ (slice : ListedSlice). (hold : Bool) → P (request_of frames counts id slice hold)) first (second ∷ more) all true)
      (all_requests P (second ∷ more) (All-tail (λ (slice : ListedSlice). (hold : Bool) → P (request_of frames counts id slice hold)) first (second ∷ more) all))
