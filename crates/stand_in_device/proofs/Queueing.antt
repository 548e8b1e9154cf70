-- The queues of a decoder as a slice goes through them.
use Rattle.std.proofs.Common.{◌≡◌, ℕ, zero, suc, ◌<◌, List, [], ◌∷◌, length, Option, None, Some, Result, Ok, sym, ◌∙◌, ap, get_or, get_or-set_same, arith}
use Rattle.stand_in_device.specs.Buffers.{free, queued}
use Rattle.stand_in_device.specs.Machine.{Machine, empty_request, request_of, with_request}
use Rattle.stand_in_device.specs.Queuing.{output_of, queue_output}
use Rattle.stand_in_device.specs.Requests.{queue_request, set_controls}
use Rattle.stand_in_device.specs.declared.m2m_queues.requests.Output.{Output}
use Rattle.stand_in_device.specs.declared.m2m_queues.requests.QueueRequest.{QueueRequest}
use Rattle.stand_in_device.specs.declared.m2m_queues.requests.RequestState.TheVariants.{Idle}
use Rattle.h264_controls.specs.declared.request.Request.{Request}
use Rattle.stand_in_device.specs.declared.slice_digest.SliceControls.{SliceControls}
use Rattle.stand_in_device.specs.Decoding.{IsBetween, IsWaiting, waiting}

pub ok_is : {A E : Type 0} (x y : A) → ◌≡◌ {A = Result A E} (Ok x) (Ok y) → x ≡ y
ok_is x y same = cc

-- a request that is there is one of the list
pub inside : {A : Type 0} (slots : List (Option A)) (id : ℕ) (r : A) → get_or slots id None ≡ Some r → id < length slots
inside [] id r there = cc
inside (slot ∷ slots) zero r there = omega arith
inside (slot ∷ slots) (suc id) r there = let within = inside slots id r there in omega (arith, within)

-- a request that is put under an id that was there is there
put_there : (q : Machine SliceControls) (id : ℕ) (before after : QueueRequest SliceControls) → request_of q id ≡ Some before → request_of (with_request q id (Some after)) id ≡ Some after
put_there q id before after there = get_or-set_same q.requests id (Some after) None (inside q.requests id before there)

-- an idle request with controls alone, no request that is queued, and the OUTPUT buffer free
record IsControlled (q : Machine SliceControls) (id : ℕ) (controls : SliceControls) : Type 0 where
  pub there : request_of q id ≡ Some (record { state = Idle; controls = Some controls; output = None })
  pub order : q.order ≡ []
  pub outputs : q.outputs ≡ free 0 ∷ []

controlled : (q new : Machine SliceControls) (id : ℕ) (controls : SliceControls) → IsBetween q id → set_controls q id controls ≡ Ok new → IsControlled new id controls
controlled q new id controls b step =
    let after : QueueRequest SliceControls = record { state = Idle; controls = Some controls; output = None } in
    let is : with_request q id (Some after) ≡ new = ok_is _ _ (rw b.there at step) in
    record {
      there = ap (λ (m : Machine SliceControls). request_of m id) (sym is) ∙ put_there q id (empty_request Idle) after b.there;
      order = ap (λ (m : Machine SliceControls). m.order) (sym is) ∙ b.order;
      outputs = ap (λ (m : Machine SliceControls). m.outputs) (sym is) ∙ b.outputs;
    }

-- and with a slice in the OUTPUT buffer
record IsBound (q : Machine SliceControls) (id : ℕ) (controls : SliceControls) (output : Output) : Type 0 where
  pub there : request_of q id ≡ Some (record { state = Idle; controls = Some controls; output = Some output })
  pub order : q.order ≡ []
  pub outputs : q.outputs ≡ queued 0 output.timestamp ∷ []

bound : (q new : Machine SliceControls) (id : ℕ) (controls : SliceControls) (output : Output) → IsControlled q id controls → queue_output q 0 id output ≡ Ok new → IsBound new id controls output
bound q new id controls output b step =
    let before : QueueRequest SliceControls = record { state = Idle; controls = Some controls; output = None } in
    let after : QueueRequest SliceControls = record { state = Idle; controls = Some controls; output = Some output } in
    let is : with_request (record q { outputs = queued 0 output.timestamp ∷ [] }) id (Some after) ≡ new = ok_is _ _ (rw (b.there, b.outputs) at step) in
    record {
      there = ap (λ (m : Machine SliceControls). request_of m id) (sym is) ∙ put_there q id before after b.there;
      order = ap (λ (m : Machine SliceControls). m.order) (sym is) ∙ b.order;
      outputs = ap (λ (m : Machine SliceControls). m.outputs) (sym is);
    }

waits : (q new : Machine SliceControls) (id : ℕ) (slice : Request) → IsBound q id (record { body = slice.body; references = slice.references }) (output_of 0 slice.body.bytes slice.timestamp slice.hold) → queue_request q id ≡ Ok new → IsWaiting new id slice
waits q new id slice b step =
    let before : QueueRequest SliceControls = record (waiting slice) { state = Idle } in
    let is : with_request (record q { order = id ∷ [] }) id (Some (waiting slice)) ≡ new = ok_is _ _ (rw (b.there, b.order) at step) in
    record {
      there = ap (λ (m : Machine SliceControls). request_of m id) (sym is) ∙ put_there q id before (waiting slice) b.there;
      order = ap (λ (m : Machine SliceControls). m.order) (sym is);
      outputs = ap (λ (m : Machine SliceControls). m.outputs) (sym is) ∙ b.outputs;
    }

-- a slice that goes through three calls waits for its turn
pub queued_up : (q first second new : Machine SliceControls) (id : ℕ) (slice : Request) → IsBetween q id → set_controls q id (record { body = slice.body; references = slice.references }) ≡ Ok first → queue_output first 0 id (output_of 0 slice.body.bytes slice.timestamp slice.hold) ≡ Ok second → queue_request second id ≡ Ok new → IsWaiting new id slice
queued_up q first second new id slice b set out queue =
    waits second new id slice (bound first second id _ _ (controlled q first id _ b set) out) queue
