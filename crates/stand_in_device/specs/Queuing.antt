-- The calls on buffers (Linux media documentation, VIDIOC_QBUF and VIDIOC_DQBUF): what each leaves, with its refusals in
-- their order.
use Rattle.std.specs.Prelude.{◌≡◌, ℕ, ◌||◌, Bool, not, List, [], ◌∷◌, Option, None, Some, Result, Ok, Err, is_none, false}
use Rattle.stand_in_device.specs.declared.m2m_queues.fault.QueueFault.{QueueFault}
use Rattle.stand_in_device.specs.declared.m2m_queues.fault.QueueFault.TheVariants.{Busy, NoEntry, Invalid, Again}
use Rattle.stand_in_device.specs.declared.m2m_queues.requests.Output.{Output}
use Rattle.stand_in_device.specs.declared.m2m_queues.buffers.BufferState.TheVariants.{Free, Done}
use Rattle.stand_in_device.specs.declared.m2m_queues.buffers.Buffer.{Buffer}
use Rattle.stand_in_device.specs.declared.m2m_queues.buffers.Dequeued.{Dequeued}
use Rattle.stand_in_device.specs.Buffers.{free, queued, turned, buffer_at, oldest, same_state}
use Rattle.stand_in_device.specs.Machine.{Machine, request_of, changed, is_idle, has_output}
use Rattle.stand_in_device.specs.Steps.{Step, unless}

-- there is a buffer, and it is with the caller
abbrev pub is_free : Option Buffer → Bool
is_free None = false
is_free (Some buffer) = same_state buffer.state Free

-- the buffer that is answered, and those that are left
pub record Taken : Type 0 where
  pub answer : Dequeued
  pub buffers : List Buffer

-- the oldest done buffer goes to the caller
abbrev pub dequeue : List Buffer → Result Taken QueueFault
dequeue buffers = dequeue_this (oldest buffers Done)
  where
    dequeue_this : Option Buffer → Result Taken QueueFault
    dequeue_this None = Err Again
    dequeue_this (Some buffer) = Ok (record {
      answer = record { index = buffer.index; timestamp = buffer.timestamp };
      buffers = turned buffers (free buffer.index);
    })

-- the call takes what is taken from these buffers and leaves those, or is refused and changes nothing
abbrev pub Takes : Result Dequeued QueueFault → List Buffer → List Buffer → Type 0
Takes (Ok answer) old new = dequeue old ≡ Ok (record { answer = answer; buffers = new })
Takes (Err fault) old new = (dequeue old ≡ Err fault) × (new ≡ old)

-- the OUTPUT buffer of this index with a slice of the frame with this timestamp
abbrev pub output_of : ℕ → List ℕ → ℕ → Bool → Output
output_of index bytes timestamp hold = record { index = index; bytes = bytes; timestamp = timestamp; hold = hold }

module _ {C : Type 0} where
  -- VIDIOC_QBUF of the OUTPUT queue, with a request
  abbrev pub queue_output : Machine C → ℕ → ℕ → Output → Step C
  queue_output q index id output =
      unless
      ((is_none (request_of q id), NoEntry)
      ∷ (is_none (buffer_at q.outputs index), Invalid)
      ∷ (not (is_idle (request_of q id)) || has_output (request_of q id), Busy)
      ∷ (not (is_free (buffer_at q.outputs index)), Invalid)
      ∷ [])
      (changed
      (record q { outputs = turned q.outputs (queued index output.timestamp) })
      id
      (λ request. record request { output = Some output }))

  -- VIDIOC_QBUF of the CAPTURE queue
  abbrev pub queue_capture : Machine C → ℕ → Step C
  queue_capture q index =
      unless
      ((not (is_free (buffer_at q.captures index)), Invalid) ∷ [])
      (record q { captures = turned q.captures (queued index 0) })
