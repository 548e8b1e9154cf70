-- What a call answers beside the numbers of refusals that edits have (docs/C.md).
use Rattle.std.specs.Prelude.{ℕ}

-- the call did what it says
abbrev pub done : ℕ
done = 0

-- a growth of memory was refused
abbrev pub memory : ℕ
memory = 15

-- no unit has the id
abbrev pub no_such_unit : ℕ
no_such_unit = 16

-- the handle has no session
abbrev pub no_session : ℕ
no_session = 100

-- the handle has a session already
abbrev pub is_open : ℕ
is_open = 101

-- the room of the cache is out of its range
abbrev pub cache_range : ℕ
cache_range = 102

-- what the caller gives has no room for what is asked
abbrev pub too_small : ℕ
too_small = 103

-- no unit stands at the place, no edit in the journal has the index, or no reference of a job has
-- it
abbrev pub no_such_place : ℕ
no_such_place = 104

-- no job of the number is out
abbrev pub no_such_job : ℕ
no_such_job = 105

-- the picture has no slice of the index
abbrev pub no_such_slice : ℕ
no_such_slice = 106

-- the unit isn't valid
abbrev pub not_valid : ℕ
not_valid = 107

-- no picture is due
abbrev pub nothing_due : ℕ
nothing_due = 108

-- all numbers of jobs were given
abbrev pub jobs_spent : ℕ
jobs_spent = 109

-- the result of a job is wanted no more
abbrev pub stale : ℕ
stale = 110

-- the unit isn't valid, or its picture isn't held
abbrev pub not_held : ℕ
not_held = 111

-- the unit is valid, and its picture isn't held
abbrev pub pending : ℕ
pending = 112

-- the unit has a fault
abbrev pub has_fault : ℕ
has_fault = 113

-- the unit has no slice, so that it has no picture
abbrev pub no_picture : ℕ
no_picture = 114

-- an edit of a group is of no kind, or its text isn't within the bytes
abbrev pub not_an_edit : ℕ
not_an_edit = 115

-- the slice has no weight table
abbrev pub no_weights : ℕ
no_weights = 116

-- no status or fault has the number
abbrev pub no_such_name : ℕ
no_such_name = 117

-- without start codes a picture of several slices has no bytes
abbrev pub several_slices : ℕ
several_slices = 118
