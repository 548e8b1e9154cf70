-- The buffers of a queue (Linux media documentation, "Buffers" and VIDIOC_QUERYBUF): a list of them in the order in
-- which they came into their states, the newest last.
use Rattle.std.specs.Prelude.{ℕ, Bool, true, false, ◌==◌, List, [], ◌∷◌, ◌++◌, map, Option, None, Some, find, position, remove, ◌≡◌, count_by, length, nat_lt, if◌then◌else◌}
use Rattle.std.specs.List.{range_with_len}
use Rattle.stand_in_device.specs.declared.m2m_queues.buffers.BufferState.{BufferState}
use Rattle.stand_in_device.specs.declared.m2m_queues.buffers.BufferState.TheVariants.{Free, Queued, Held, Done}
use Rattle.stand_in_device.specs.declared.m2m_queues.buffers.Buffer.{Buffer}

-- a buffer that the caller has
abbrev pub free : ℕ → Buffer
free index = record { index = index; state = Free; timestamp = 0 }

-- a buffer in a queue, with the timestamp of what it holds
abbrev pub queued : ℕ → ℕ → Buffer
queued index timestamp = record { index = index; state = Queued; timestamp = timestamp }

-- a CAPTURE buffer that further slices of the frame with this timestamp go to
abbrev pub held : ℕ → ℕ → Buffer
held index timestamp = record { index = index; state = Held; timestamp = timestamp }

-- a buffer that waits to be dequeued, with the timestamp of its frame
abbrev pub done : ℕ → ℕ → Buffer
done index timestamp = record { index = index; state = Done; timestamp = timestamp }

-- so many buffers, all free
abbrev pub free_buffers : ℕ → List Buffer
free_buffers count = map free (range_with_len 0 count)

-- the two states are one
abbrev pub same_state : BufferState → BufferState → Bool
same_state Free Free = true
same_state Queued Queued = true
same_state Held Held = true
same_state Done Done = true
same_state _ _ = false

-- the buffer of an index
abbrev pub buffer_at : List Buffer → ℕ → Option Buffer
buffer_at buffers index = find (λ b. b.index == index) buffers

-- the buffer that came into this state first of those that are in it
abbrev pub oldest : List Buffer → BufferState → Option Buffer
oldest buffers state = find (λ b. same_state b.state state) buffers

-- the buffers with this one in place of the one at that place, now the newest
abbrev pub turned_at : List Buffer → Buffer → Option ℕ → List Buffer
turned_at buffers buffer None = buffers
turned_at buffers buffer (Some place) = remove buffers place ++ buffer ∷ []

-- the buffers with this one in place of the one of its index, now the newest
abbrev pub turned : List Buffer → Buffer → List Buffer
turned buffers buffer = turned_at buffers buffer (position (λ b. b.index == buffer.index) buffers)

-- each index below the number of the buffers is that of one of them, and no other is
pub record IsNumbered (buffers : List Buffer) : Type 0 where
  pub each : (index : ℕ) → count_by (λ b. b.index == index) buffers ≡ (if nat_lt index (length buffers) then 1 else 0)
