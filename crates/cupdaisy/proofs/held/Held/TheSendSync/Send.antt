-- What a handle owns may cross threads, as a box of a session may.
use mir.Raw.{raw}
use base.Shift.{Keyless}
use denote.Memory.{lone}
use denote.RawPtr.{Ptr}
use denote.Struct.Struct.{exits_of}
use denote.Struct.Owning.{shape, fields, to}
use denote.Param.Send.{IsSend, AllSend, owning_send, struct_send, sendable}
use Rattle.std.specs.Global.{Global}
use Rattle.std.specs.Prelude.{Option, None, Some}
use Rattle.std.proofs.Crossing as heap
use Rattle.std_alloc.proofs.SendSync.{quiet, lies}
use Rattle.std_heap.proofs.Global.TheSendSync as handle
use Rattle.c_calls.specs.contracts.surface_session.SurfaceSession as Session
use Rattle.c_calls.proofs.surface_session.SurfaceSession.TheSendSync.{the_send as session}
use Rattle.cupdaisy.specs.Ownership.{State, held_owns}
use Rattle.cupdaisy.specs.contracts.held.Held.{the_row, the_type}

-- what is owned names no key
owned : (alloc : Global) (at : Ptr) (state : Option State) → Keyless (held_owns alloc at state)
owned alloc at None = tt
owned alloc at (Some state) = (lies Session.the_row session at state, heap.frees.frees alloc (raw (lone Session.the_row.mir)) at)

pub send : IsSend the_row
send =
    let all : AllSend (fields the_type) = (search sendable, (handle.the_field_send, tt)) in
    owning_send the_type all (λ d. owned d.alloc d.at d.state)
    (λ k. quiet (to the_type) (exits_of k (fields the_type)) ((struct_send (shape the_type) all).leaving k))
