-- What a handle owns: the same as a box of a session where it has one, else nothing.
use base.Fml.{Fml, ftrue}
use base.Stored.{Coded}
use denote.RawPtr.{Ptr}
use Rattle.std.specs.Prelude.{Option, None, Some}
use Rattle.std.specs.Coded.{coded_option}
use Rattle.std.specs.Box.Ownership.{box_owns}
use Rattle.std.specs.Global.{Global}
use Rattle.std_heap.specs.contracts.GlobalAllocator.TheImpl.{ghosts}
use Rattle.c_calls.specs.contracts.surface_session.SurfaceSession.{the_row}

-- the state of a session, as contracts see it
abbrev pub State : Type 0
State = the_row.Denot

-- at no state nothing, else the session in its block
abbrev pub held_owns : Global → Ptr → Option State → Fml
held_owns alloc at None = ftrue
held_owns alloc at (Some state) = box_owns (ghosts.dealloc_token alloc) the_row at state

-- the code of a state that may be there
abbrev pub state_coded : Coded (Option State)
state_coded = coded_option the_row.coded
