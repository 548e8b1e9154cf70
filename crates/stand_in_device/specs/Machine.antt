-- What contracts see of `Queues`: requests and buffers (Linux media documentation, "Request API", and "Memory-to-Memory
-- Stateless Video Decoder Interface").
use Rattle.std.specs.Prelude.{ℕ, Bool, true, false, List, [], Option, None, Some, slice_index_or, slice_set, count_by, is_some}
use Rattle.std.specs.Option.{option_map}
use Rattle.stand_in_device.specs.declared.m2m_queues.requests.RequestState.{RequestState}
use Rattle.stand_in_device.specs.declared.m2m_queues.requests.RequestState.TheVariants.{Idle, Queued}
use Rattle.stand_in_device.specs.declared.m2m_queues.requests.QueueRequest.{QueueRequest}
use Rattle.stand_in_device.specs.declared.m2m_queues.buffers.Buffer.{Buffer}
use Rattle.stand_in_device.specs.Buffers.{free_buffers}

-- the requests by their ids, the ids of the queued ones with the oldest first, and the buffers of both queues
pub record Machine (C : Type 0) : Type 0 where
  pub requests : List (Option (QueueRequest C))
  pub order : List ℕ
  pub outputs : List Buffer
  pub captures : List Buffer

-- a request of this state may be changed
abbrev pub is_idle_state : RequestState → Bool
is_idle_state Idle = true
is_idle_state _ = false

-- a request of this state waits for its turn
abbrev pub is_queued_state : RequestState → Bool
is_queued_state Queued = true
is_queued_state _ = false

module _ {C : Type 0} where
  -- how far a request is, if there is one
  abbrev pub state_of : Option (QueueRequest C) → Option RequestState
  state_of request = option_map (λ there. there.state) request

  -- there is a request, and it is idle
  abbrev pub is_idle : Option (QueueRequest C) → Bool
  is_idle None = false
  is_idle (Some request) = is_idle_state request.state

  -- there is a request, and it is queued
  abbrev pub is_queued : Option (QueueRequest C) → Bool
  is_queued None = false
  is_queued (Some request) = is_queued_state request.state

  -- there is a request, and an OUTPUT buffer is bound to it
  abbrev pub has_output : Option (QueueRequest C) → Bool
  has_output None = false
  has_output (Some request) = is_some request.output

  -- there is a request, and controls are bound to it
  abbrev pub has_controls : Option (QueueRequest C) → Bool
  has_controls None = false
  has_controls (Some request) = is_some request.controls

  -- the request of an id
  abbrev pub request_of : Machine C → ℕ → Option (QueueRequest C)
  request_of q id = slice_index_or q.requests id None

  -- how many requests there are
  abbrev pub request_count : Machine C → ℕ
  request_count q = count_by is_some q.requests

  -- no request, and so many buffers, all free
  abbrev pub opened : ℕ → ℕ → Machine C
  opened outputs captures = record { requests = []; order = []; outputs = free_buffers outputs; captures = free_buffers captures }

  -- the request of this id is now as given, or is gone
  abbrev pub with_request : Machine C → ℕ → Option (QueueRequest C) → Machine C
  with_request q id request = record q { requests = slice_set q.requests id request }

  -- the request of this id is changed
  abbrev pub changed : Machine C → ℕ → (QueueRequest C → QueueRequest C) → Machine C
  changed q id change = with_request q id (option_map change (request_of q id))

  -- a request to which nothing is bound
  abbrev pub empty_request : RequestState → QueueRequest C
  empty_request state = record { state = state; controls = None; output = None }
