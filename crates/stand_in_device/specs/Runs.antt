-- The run of one request (Linux media documentation, "Memory-to-Memory Stateless Video Decoder Interface", and
-- V4L2_BUF_FLAG_M2M_HOLD_CAPTURE_BUF): which is next, where its slice goes, and what its run leaves.
use Rattle.std.specs.Prelude.{◌≡◌, ◌==◌, ◌⊎◌, ℕ, true, false, List, [], Option, None, Some, IsSome, Result, Ok, Err, if◌then◌else◌, remove, slice_get, slice_set}
use Rattle.stand_in_device.specs.declared.m2m_queues.fault.QueueFault.{QueueFault}
use Rattle.stand_in_device.specs.declared.m2m_queues.fault.QueueFault.TheVariants.{Again, Memory}
use Rattle.stand_in_device.specs.declared.m2m_queues.requests.RequestState.TheVariants.{Complete}
use Rattle.stand_in_device.specs.declared.m2m_queues.requests.QueueRequest.{QueueRequest}
use Rattle.stand_in_device.specs.declared.m2m_queues.requests.Output.{Output}
use Rattle.stand_in_device.specs.declared.m2m_queues.buffers.BufferState.TheVariants.{Queued, Held}
use Rattle.stand_in_device.specs.declared.m2m_queues.buffers.Buffer.{Buffer}
use Rattle.stand_in_device.specs.declared.m2m_queues.slice_decoder.Target.{Target}
use Rattle.stand_in_device.specs.declared.m2m_queues.slice_decoder.RunOne.{RunOne}
use Rattle.stand_in_device.specs.declared.m2m_queues.slice_decoder.RunOne.TheVariants.{Ran, Released}
use Rattle.stand_in_device.specs.Buffers.{done, held, turned, oldest}
use Rattle.stand_in_device.specs.Given.{Given, given}
use Rattle.stand_in_device.specs.Machine.{Machine, request_of, empty_request}

-- a held CAPTURE buffer, if it is held for another frame than the one with this timestamp
abbrev pub another : Option Buffer → ℕ → Option Buffer
another None timestamp = None
another (Some buffer) timestamp = if buffer.timestamp == timestamp then None else Some buffer

-- the CAPTURE buffer that is held for another frame than the one with this timestamp
abbrev pub held_for_another : List Buffer → ℕ → Option Buffer
held_for_another captures timestamp = another (oldest captures Held) timestamp

-- the CAPTURE buffers once this one is released as done
abbrev pub release : List Buffer → Option Buffer → List Buffer
release captures None = captures
release captures (Some buffer) = turned captures (done buffer.index buffer.timestamp)

-- the CAPTURE buffers once one that is held for another frame is released as done
abbrev pub released : List Buffer → ℕ → List Buffer
released captures timestamp = release captures (held_for_another captures timestamp)

-- where a slice goes that begins this CAPTURE buffer
abbrev pub begin : Option Buffer → Option Target
begin None = None
begin (Some buffer) = Some (record { capture = buffer.index; begins = true })

-- where a slice goes by the held CAPTURE buffer and the oldest queued one: on with the first where that is held for its
-- frame, else it begins the second
abbrev pub target_by : Option Buffer → Option Buffer → ℕ → Option Target
target_by None queued timestamp = begin queued
target_by (Some buffer) queued timestamp =
    if buffer.timestamp == timestamp then Some (record { capture = buffer.index; begins = false }) else begin queued

-- where a slice of the frame with this timestamp goes
abbrev pub target_of : List Buffer → ℕ → Option Target
target_of captures timestamp = target_by (oldest captures Held) (oldest captures Queued) timestamp

-- the CAPTURE buffer of a slice that was run
abbrev pub written : Target → Output → Buffer
written target output =
    if output.hold then held target.capture output.timestamp else done target.capture output.timestamp

module _ {C : Type 0} where
  -- the oldest queued request, with its controls and its OUTPUT buffer
  pub record IsNext (q : Machine C) (id : ℕ) (controls : C) (output : Output) : Type 0 where
    pub request : QueueRequest C
    pub first : slice_get q.order 0 ≡ Some id
    pub there : request_of q id ≡ Some request
    pub controlled : request.controls ≡ Some controls
    pub bound : request.output ≡ Some output

  -- the slice was run: its request is complete, and both buffers are the newest of their queues
  abbrev pub after_run : Machine C → ℕ → Output → Target → Machine C
  after_run q id output target = record {
    requests = slice_set q.requests id (Some (empty_request Complete));
    order = remove q.order 0;
    outputs = turned q.outputs (done output.index output.timestamp);
    captures = turned (released q.captures output.timestamp) (written target output);
  }

-- from the state old a run leaves the state new, and what does the work goes from before to after
module _ {C S : Type 0} (decodes : S → Given C → S → Type 0) (old new : Machine C) (before after : S) where
  -- the next slice was worked on, once and with the right things
  pub record HasRun : Type 0 where
    pub id : ℕ
    pub controls : C
    pub output : Output
    pub target : Target
    pub next : IsNext old id controls output
    pub placed : target_of old.captures output.timestamp ≡ Some target
    pub decoded : decodes before (given controls output.bytes output.timestamp target) after
    pub left : new ≡ after_run old id output target

  -- no CAPTURE buffer is queued for the next slice, and one that was held for another frame is done now
  pub record HasReleased : Type 0 where
    pub id : ℕ
    pub controls : C
    pub output : Output
    pub next : IsNext old id controls output
    pub unplaced : target_of old.captures output.timestamp ≡ None
    pub was_held : IsSome (held_for_another old.captures output.timestamp)
    pub left : new ≡ record old { captures = released old.captures output.timestamp }
    pub untouched : after ≡ before

  -- no slice is queued, or no CAPTURE buffer is queued or held
  pub record HasNothing : Type 0 where
    pub idle : (old.order ≡ []) ⊎ ((oldest old.captures Queued ≡ None) × (oldest old.captures Held ≡ None))
    pub left : new ≡ old
    pub untouched : after ≡ before

  -- the work on the next slice ran out of memory
  pub record WantsMemory : Type 0 where
    pub id : ℕ
    pub controls : C
    pub output : Output
    pub target : Target
    pub next : IsNext old id controls output
    pub placed : target_of old.captures output.timestamp ≡ Some target
    pub left : new ≡ old

  -- what each answer of a run says
  abbrev pub RunsOne : Result RunOne QueueFault → Type 0
  RunsOne (Ok Ran) = HasRun
  RunsOne (Ok Released) = HasReleased
  RunsOne (Err Again) = HasNothing
  RunsOne (Err Memory) = WantsMemory
  RunsOne (Err _) = ⊥
