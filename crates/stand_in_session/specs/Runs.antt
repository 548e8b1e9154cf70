-- Commands to a session: the reply to one, and the replies to a list of them.
use Rattle.std.specs.Prelude.{◌≡◌, ℕ, List, [], ◌∷◌, All, Contains, Option, Some, None, Result, Ok, Err}
use Rattle.stand_in_device.specs.Jobs.{JobValue}
use Rattle.picture_store.specs.declared.answers.TakeRefused.{TakeRefused}
use Rattle.picture_store.specs.declared.answers.TakeRefused.TheVariants.{JobsSpent, Memory}
use Rattle.picture_store.specs.declared.answers.Landing.{Landing}
use Rattle.picture_store.specs.declared.answers.Returning.{Returning}
use Rattle.stand_in_session.specs.declared.commands.Command.{Command}
use Rattle.stand_in_session.specs.declared.commands.Command.TheVariants as commands
use Rattle.stream_edits.specs.declared.group_refused.GroupRefused.{GroupRefused}
use Rattle.stream_edits.specs.declared.receipts.GroupReceipt.{GroupReceipt}
use Rattle.stream_edits.specs.declared.receipts.Receipt.{Receipt}
use Rattle.stream_edits.specs.declared.refusals.EditRefused.{EditRefused}
use Rattle.stream_session.specs.declared.showing.NoSuchUnit.{NoSuchUnit}
use Rattle.stand_in_session.specs.declared.replies.NotOut.{NotOut}
use Rattle.stand_in_session.specs.declared.jobs.Dropping.{Dropping}
use Rattle.stand_in_session.specs.Showing.{Shown, Shows}
use Rattle.stand_in_session.specs.declared.replies.Reply.{Reply}
use Rattle.stand_in_session.specs.declared.replies.Reply.TheVariants as replies
use Rattle.stand_in_session.specs.declared.replies.TakenJob.{TakenJob}
use Rattle.stand_in_session.specs.declared.replies.UnitReport.{UnitReport}
use Rattle.stream_edits.specs.Streams.{Stream, place_of}
use Rattle.stream_session.specs.Streams.{outcome_in, position_in}
use Rattle.stand_in_session.specs.Machines.{Machine}
use Rattle.stream_session.specs.Machines.{empty, uncached, AnswersEdit}
use Rattle.stream_session.specs.Grouping.{AnswersGroup}
use Rattle.stand_in_session.specs.Jobs.{AnswersTake, AnswersLand}
use Rattle.stream_session.specs.Jobs.{AnswersGiveBack, IsUnitOf}
use Rattle.stand_in_session.specs.Needing.{TakesFor, AnswersTakeWithUnitFor, AnswersDrop}
use Rattle.stream_session.specs.Taken.{taken_of}

-- what is reported of a unit of the stream: its outcome and its position, or that it isn't there
abbrev pub Reports : Stream → ℕ → Result UnitReport NoSuchUnit → Type 0
Reports stream id (Ok report) =
    (outcome_in stream id ≡ Some report.outcome) × (position_in stream id ≡ Some report.position)
Reports stream id (Err none) = place_of stream id ≡ None

-- a job is taken, and told by its number with its unit; lack of memory ends a run, and is no reply
abbrev pub TakesJob : Machine → Result (Option TakenJob) TakeRefused → Machine → Type 0
TakesJob old (Ok (Some taken)) new =
    (job : JobValue) × (job.number ≡ taken.number) × AnswersTake old (Ok (Some job)) new
    × IsUnitOf new taken.number taken.unit
TakesJob old (Ok None) new = AnswersTake old (Ok None) new
TakesJob old (Err JobsSpent) new = AnswersTake old (Err JobsSpent) new
TakesJob old (Err Memory) new = ⊥

-- a job is taken for the unit of the id, and told by its number with its unit
abbrev pub TakesJobFor : Machine → ℕ → Result (Option TakenJob) TakeRefused → Machine → Type 0
TakesJobFor old id (Ok (Some taken)) new =
    (job : JobValue) × (job.number ≡ taken.number) × TakesFor old id taken.unit job new
TakesJobFor old id (Ok None) new = AnswersTakeWithUnitFor old id (Ok None) new
TakesJobFor old id (Err JobsSpent) new = AnswersTakeWithUnitFor old id (Err JobsSpent) new
TakesJobFor old id (Err Memory) new = ⊥

-- no job of the number is out, and nothing changes
abbrev pub IsNotOut : Machine → ℕ → Machine → Type 0
IsNotOut old number new = All (λ job. job.number ≡ number → ⊥) (taken_of old) × (new ≡ old)

-- the job of the number was taken
abbrev pub IsTaken : Machine → ℕ → JobValue → Type 0
IsTaken machine number job = (job.number ≡ number) × Contains (taken_of machine) job

-- the job of the number is decoded as it was taken, and its result lands
abbrev pub LandsJob : Machine → ℕ → Result Landing NotOut → Machine → Type 0
LandsJob old number (Ok landing) new = (job : JobValue) × IsTaken old number job × AnswersLand old job landing new
LandsJob old number (Err none) new = IsNotOut old number new

-- the job of the number is given back
abbrev pub GivesJobBack : Machine → ℕ → Result Returning NotOut → Machine → Type 0
GivesJobBack old number (Ok returning) new =
    (job : JobValue) × IsTaken old number job × AnswersGiveBack old job returning new
GivesJobBack old number (Err none) new = IsNotOut old number new

-- the reply to a command, from the state before it to the state after it: a line for each command,
-- which says what its reply is
abbrev pub Answers : Machine → Command → Reply → Machine → Type 0
Answers old (commands.Edit edit) reply new =
    (answer : Result Receipt EditRefused) × (reply ≡ replies.Edit answer) × AnswersEdit old edit answer new
Answers old (commands.Group edits) reply new =
    (answer : Result GroupReceipt GroupRefused) × (reply ≡ replies.Group answer) × AnswersGroup old edits.items answer new
Answers old (commands.Unit id) reply new =
    (answer : Result UnitReport NoSuchUnit) × (reply ≡ replies.Unit answer) × Reports old.register.stream id answer
    × (new ≡ old)
Answers old commands.Take reply new =
    (answer : Result (Option TakenJob) TakeRefused) × (reply ≡ replies.Take answer) × TakesJob old answer new
Answers old (commands.TakeFor id) reply new =
    (answer : Result (Option TakenJob) TakeRefused) × (reply ≡ replies.TakeFor answer) × TakesJobFor old id answer new
Answers old (commands.Land number) reply new =
    (answer : Result Landing NotOut) × (reply ≡ replies.Land answer) × LandsJob old number answer new
Answers old (commands.GiveBack number) reply new =
    (answer : Result Returning NotOut) × (reply ≡ replies.GiveBack answer) × GivesJobBack old number answer new
Answers old (commands.Show id) reply new =
    (answer : Shown) × (reply ≡ replies.Show answer) × Shows old id answer × (new ≡ old)
Answers old (commands.Drop id) reply new =
    (answer : Dropping) × (reply ≡ replies.Dropped answer) × AnswersDrop old id answer new
Answers old commands.ClearCache reply new = (reply ≡ replies.Cleared) × (new ≡ uncached old)

-- each command has its reply, in turn
abbrev pub Runs : Machine → List Command → List Reply → Machine → Type 0
Runs from [] [] to = from ≡ to
Runs from (command ∷ commands) (reply ∷ replies) to =
    (next : Machine) × Answers from command reply next × Runs next commands replies to
Runs from [] (reply ∷ replies) to = ⊥
Runs from (command ∷ commands) [] to = ⊥

-- the replies are those of a run of the commands from the empty stream
abbrev pub IsRun : ℕ → List Command → List Reply → Type 0
IsRun capacity commands replies = (last : Machine) × Runs (empty capacity) commands replies last
