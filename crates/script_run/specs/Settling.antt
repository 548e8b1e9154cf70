-- How `settle` leads from one state of the session to another: for all units, or for the one of an
-- id (docs/OUTPUT.md).
use Rattle.std.specs.Prelude.{◌≡◌, ℕ, Bool, true, false, List, [], ◌∷◌, Ok, Option, Some, None}
use Rattle.stand_in_session.specs.declared.commands.Command.TheVariants as told
use Rattle.stand_in_session.specs.declared.replies.Reply.{Reply}
use Rattle.stand_in_session.specs.declared.replies.Reply.TheVariants as replies
use Rattle.stand_in_session.specs.declared.replies.TakenJob.{TakenJob}
use Rattle.stand_in_session.specs.Machines.{Machine}
use Rattle.stand_in_session.specs.Runs.{Answers as Replies}
use Rattle.stream_session.specs.Taken.{input_of}

-- this job is taken, or none, since no picture is due, or none of those that the unit of the id
-- needs
abbrev pub Takes : Option ℕ → Machine → Option TakenJob → Machine → Type 0
Takes None old job new = Replies old told.Take (replies.Take (Ok job)) new
Takes (Some id) old job new = Replies old (told.TakeFor id) (replies.TakeFor (Ok job)) new

-- this job is taken, decoded, and its result lands, after which it is out no more
abbrev pub Lands : Option ℕ → Machine → TakenJob → Machine → Type 0
Lands unit old job new = (between : Machine) × (reply : Reply)
    × Takes unit old (Some job) between × Replies between (told.Land job.number) reply new
    × (input_of new job.number ≡ None)

-- the next job lands, or there's none
abbrev pub LandsNext : Option ℕ → Machine → Bool → Machine → Type 0
LandsNext unit old true new = (job : TakenJob) × Lands unit old job new
LandsNext unit old false new = Takes unit old None new

-- these jobs land, each taken when the one before it has landed, and then no picture is due
abbrev pub Settles : Option ℕ → Machine → List TakenJob → Machine → Type 0
Settles unit from [] to = Takes unit from None to
Settles unit from (job ∷ jobs) to = (next : Machine) × Lands unit from job next × Settles unit next jobs to
