-- The session of a stream.
use Rattle.std.specs.Prelude.{◌≡◌, ℕ, ◌≤◌, List, [], length, Contains, ⊤, ◌⊎◌}
use Rattle.access_unit.specs.StreamUnits.{IsStream, IsStreamRefused, most_units}
use Rattle.plan_stream.specs.Streams.{numbered_from}
use Rattle.decode_jobs.specs.Keys.{Key}
use Rattle.picture_store.specs.Stores.{IsInUse}
use Rattle.stream_session.specs.Machines.{store_of}
use Rattle.stand_in_session.specs.Machines.{Machine}
use Rattle.draw_run.specs.Marks.{HoldsAll}
use Rattle.draw_run.specs.declared.fault.EditsFault.{EditsFault}
use Rattle.draw_run.specs.declared.fault.EditsFault.TheVariants.{Script, Refused, Memory, Unwritten}

-- for how many pictures that no unit has any more the session has room
abbrev pub capacity : ℕ
capacity = 64

-- the stream of the session has these units, whose ids are 1, 2, 3 and so on; no job is out, and no
-- picture is there
pub record HasLoaded (parts : List (List (List ℕ))) (machine : Machine) : Type 0 where
  pub stream_is : machine.register.stream ≡ numbered_from 1 parts
  pub given_is : machine.register.ids_given ≡ length parts
  pub none_out : machine.jobs_out ≡ []
  pub none_held : machine.held ≡ []
  pub none_cached : machine.cached ≡ []
  pub capacity_is : machine.capacity ≡ capacity

-- the session has the stream of the text
pub record IsLoaded (text : List ℕ) (machine : Machine) : Type 0 where
  pub parts : List (List (List ℕ))
  pub stream : IsStream text parts
  pub bounded : length parts ≤ most_units
  pub loaded : HasLoaded parts machine

-- with all its pictures held, and no others, and none cached
pub record IsHeld (text : List ℕ) (machine : Machine) : Type 0 where
  pub parts : List (List (List ℕ))
  pub stream : IsStream text parts
  pub bounded : length parts ≤ most_units
  pub stream_is : machine.register.stream ≡ numbered_from 1 parts
  pub holds : HoldsAll machine
  pub only : (key : Key) → Contains machine.held key → IsInUse (store_of machine) key
  pub none_cached : machine.cached ≡ []
  pub capacity_is : machine.capacity ≡ capacity

-- pictures alone come: the stream, the room and the cache stay as they are, no job is out, and what is
-- held was held or is in use
pub record KeepsRest (old new : Machine) : Type 0 where
  pub register_stays : new.register ≡ old.register
  pub capacity_stays : new.capacity ≡ old.capacity
  pub cached_stay : new.cached ≡ old.cached
  pub none_out : new.jobs_out ≡ []
  pub held : (key : Key) → Contains new.held key → Contains old.held key ⊎ IsInUse (store_of old) key

-- why there is no such session: the text is refused, or memory ran out
abbrev pub IsLoadFault : List ℕ → EditsFault → Type 0
IsLoadFault text (Script number) = ⊥
IsLoadFault text (Refused refusal) = IsStreamRefused text most_units refusal
IsLoadFault text Memory = ⊤
IsLoadFault text Unwritten = ⊥
