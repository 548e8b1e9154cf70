-- The queues of a decoder between two slices.
use Rattle.std.specs.Prelude.{◌≡◌, ◌⊎◌, ℕ, List, [], ◌∷◌, Some, if◌then◌else◌, ◌==◌, IsTrue}
use Rattle.std.specs.List.{list_all}
use Rattle.sha2.specs.Hashers.{Holds256}
use Rattle.stand_in_device.specs.Machine.{Machine, empty_request, request_of}
use Rattle.stand_in_device.specs.Buffers.{done, free, held, queued}
use Rattle.stand_in_device.specs.Queuing.{output_of}
use Rattle.stand_in_device.specs.declared.m2m_queues.buffers.Buffer.{Buffer}
use Rattle.stand_in_device.specs.declared.m2m_queues.requests.RequestState.TheVariants.{Complete, Idle, Queued}
use Rattle.stand_in_device.specs.declared.m2m_queues.requests.QueueRequest.{QueueRequest}
use Rattle.h264_controls.specs.declared.request.Request.{Request}
use Rattle.stand_in_device.specs.declared.slice_digest.SliceControls.{SliceControls}
use Rattle.stand_in_device.specs.declared.slice_digest.SliceDigest.{SliceDigest}

-- no request is queued, the one of this id is idle with nothing bound to it, and the OUTPUT buffer is free
pub record IsBetween (queues : Machine SliceControls) (id : ℕ) : Type 0 where
  pub there : request_of queues id ≡ Some (empty_request Idle)
  pub order : queues.order ≡ []
  pub outputs : queues.outputs ≡ free 0 ∷ []

-- the request of a slice that waits for its turn
abbrev pub waiting : Request → QueueRequest SliceControls
waiting slice = record {
  state = Queued;
  controls = Some (record { body = slice.body; references = slice.references });
  output = Some (output_of 0 slice.body.bytes slice.timestamp slice.hold);
}

-- the request of this id waits for its turn with this slice, and no other does
pub record IsWaiting (queues : Machine SliceControls) (id : ℕ) (slice : Request) : Type 0 where
  pub there : request_of queues id ≡ Some (waiting slice)
  pub order : queues.order ≡ id ∷ []
  pub outputs : queues.outputs ≡ queued 0 slice.timestamp ∷ []

-- the request of this id was run with this slice
pub record IsRun (queues : Machine SliceControls) (id : ℕ) (slice : Request) : Type 0 where
  pub there : request_of queues id ≡ Some (empty_request Complete)
  pub order : queues.order ≡ []
  pub outputs : queues.outputs ≡ done 0 slice.timestamp ∷ []

-- of the frame with this timestamp nothing was decoded, or this was, and its CAPTURE buffer is held for more
abbrev pub IsDecoded : List Buffer → ℕ → SliceDigest → List ℕ → Type 0
IsDecoded captures timestamp slice_digest m =
    ((captures ≡ queued 0 0 ∷ []) × (m ≡ []))
    ⊎ ((captures ≡ held 0 timestamp ∷ []) × Holds256 slice_digest.hasher m)

-- the CAPTURE buffer can take a slice of the frame with this timestamp
abbrev pub CanTake : List Buffer → ℕ → Type 0
CanTake captures timestamp = (captures ≡ queued 0 0 ∷ []) ⊎ (captures ≡ held 0 timestamp ∷ [])

-- the CAPTURE buffer that a slice was written to
abbrev pub written_by : Request → Buffer
written_by slice = if slice.hold then held 0 slice.timestamp else done 0 slice.timestamp

-- all slices are of the frame with this timestamp
abbrev pub AllHave : ℕ → List Request → Type 0
AllHave timestamp slices = IsTrue (list_all (λ slice. slice.timestamp == timestamp) slices)
