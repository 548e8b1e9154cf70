-- The session that answers a server's calls: one that may be what the server keeps. A session alone
-- is the only one that may be; of a desk's, which lies under a lock, no clause knows which one it
-- is.
use Rattle.std.specs.Prelude.{Result, Ok, Err}
use Rattle.std.specs.declared.alloc.AllocError.{AllocError}
use Rattle.stream_edits.specs.Edits.{Replays}
use Rattle.stream_edits.specs.Journals.{edits_of}
use Rattle.stand_in_session.specs.Machines.{Machine}
use Rattle.stream_session.specs.Altered.{with_mark}
use Rattle.stream_session.specs.Machines.{uncached}
use Rattle.session_journal.specs.declared.unkept.Unkept.{Unkept}

-- a session that may be the one answers so; its stream is what its journal leads to from
-- what it began from
abbrev pub Asks : (Machine → Type 0) → (Machine → Type 0) → Type 0
Asks is_session answers =
    (machine : Machine) × is_session machine × Replays machine.origin (edits_of machine.journal) machine.register × answers machine

-- a session that may be the one before a call takes this step, to one that may be it after the call
abbrev pub Steps : (Machine → Type 0) → (Machine → Machine → Type 0) → (Machine → Type 0) → Type 0
Steps before step after =
    (old : Machine) × (new : Machine) × before old × after new
    × Replays old.origin (edits_of old.journal) old.register × step old new

-- whichever session may be the one before a call may be it after the call
abbrev pub Stays : (Machine → Type 0) → (Machine → Type 0) → Type 0
Stays before after = (machine : Machine) → before machine → after machine

-- whichever session may be the one before a call may be it after the call, without the pictures
-- that it has cached
abbrev pub Clears : (Machine → Type 0) → (Machine → Type 0) → Type 0
Clears before after = (machine : Machine) → before machine → after (uncached machine)

-- whichever session may be the one before a call may be it after the call, its stream marked as it
-- is; or memory ran out, and it stays
abbrev pub Marks : (Machine → Type 0) → Result (Unit {0}) AllocError → (Machine → Type 0) → Type 0
Marks before (Ok it) after = (machine : Machine) → before machine → after (with_mark machine)
Marks before (Err error) after = Stays before after

-- this session may be the one after a call; or that isn't recorded, and whichever may be it before the
-- call may be it after that
abbrev pub Resets : (Machine → Type 0) → Machine → Result (Unit {0}) Unkept → (Machine → Type 0) → Type 0
Resets before session (Ok it) after = after session
Resets before session (Err why) after = Stays before after
