-- The calls on requests (Linux media documentation, "Request API"): what each leaves, with its refusals in their order.
use Rattle.std.specs.Prelude.{◌≡◌, ◌≢◌, ◌+◌, ◌++◌, ◌∷◌, ℕ, ◌&&◌, not, List, [], Option, None, Some, is_none}
use Rattle.stand_in_device.specs.declared.m2m_queues.fault.QueueFault.TheVariants.{Busy, NoEntry}
use Rattle.stand_in_device.specs.declared.m2m_queues.requests.RequestState.TheVariants.{Idle, Queued}
use Rattle.stand_in_device.specs.declared.m2m_queues.requests.QueueRequest.{QueueRequest}
use Rattle.stand_in_device.specs.declared.m2m_queues.requests.Output.{Output}
use Rattle.stand_in_device.specs.declared.m2m_queues.buffers.Buffer.{Buffer}
use Rattle.stand_in_device.specs.Buffers.{free, turned}
use Rattle.stand_in_device.specs.Machine.{Machine, request_of, request_count, with_request, changed, empty_request, is_idle, is_queued, has_output, has_controls}
use Rattle.stand_in_device.specs.Steps.{Step, unless}

module _ {C : Type 0} where
  -- an idle request to which nothing is bound is there under an id that no request had, and all else is as it was
  pub record Allocates (old new : Machine C) (id : ℕ) : Type 0 where
    pub unused : request_of old id ≡ None
    pub there : request_of new id ≡ Some (empty_request Idle)
    pub others : (other : ℕ) → other ≢ id → request_of new other ≡ request_of old other
    pub count : request_count new ≡ request_count old + 1
    pub rest : new ≡ record old { requests = new.requests }

  -- the OUTPUT buffers once the one that is bound to this request is with the caller
  abbrev pub given_back : List Buffer → Option (QueueRequest C) → List Buffer
  given_back outputs None = outputs
  given_back outputs (Some request) = given_back_of request.output
    where
      given_back_of : Option Output → List Buffer
      given_back_of None = outputs
      given_back_of (Some output) = turned outputs (free output.index)

  -- the request of the id gives its OUTPUT buffer back, and is then as given, or is gone
  abbrev pub let_go : Machine C → ℕ → Option (QueueRequest C) → Step C
  let_go q id after =
      unless
      ((is_none (request_of q id), NoEntry) ∷ (is_queued (request_of q id), Busy) ∷ [])
      (with_request (record q { outputs = given_back q.outputs (request_of q id) }) id after)

  -- the request is closed
  abbrev pub free_request : Machine C → ℕ → Step C
  free_request q id = let_go q id None

  -- MEDIA_REQUEST_IOC_REINIT
  abbrev pub reinit : Machine C → ℕ → Step C
  reinit q id = let_go q id (Some (empty_request Idle))

  -- VIDIOC_S_EXT_CTRLS with a request
  abbrev pub set_controls : Machine C → ℕ → C → Step C
  set_controls q id controls =
      unless
      ((is_none (request_of q id), NoEntry) ∷ (not (is_idle (request_of q id)), Busy) ∷ [])
      (changed q id (λ request. record request { controls = Some controls }))

  -- MEDIA_REQUEST_IOC_QUEUE
  abbrev pub queue_request : Machine C → ℕ → Step C
  queue_request q id =
      unless
      ((is_none (request_of q id), NoEntry)
      ∷ (not (is_idle (request_of q id)), Busy)
      ∷ (not (has_output (request_of q id) && has_controls (request_of q id)), NoEntry)
      ∷ [])
      (changed (record q { order = q.order ++ id ∷ [] }) id (λ request. record request { state = Queued }))
