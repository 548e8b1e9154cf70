-- The lines that answer commands about jobs (docs/OUTPUT.md).
use Rattle.std.specs.Prelude.{ℕ, ◌++◌, List, codes, decimal, Option, Some, None, Result, Ok, Err}
use Rattle.picture_store.specs.declared.answers.Landing.{Landing}
use Rattle.picture_store.specs.declared.answers.Landing.TheVariants as landing
use Rattle.picture_store.specs.declared.answers.Returning.{Returning}
use Rattle.picture_store.specs.declared.answers.Returning.TheVariants as returning
use Rattle.stand_in_session.specs.declared.replies.NotOut.{NotOut}
use Rattle.stand_in_session.specs.declared.jobs.Dropping.{Dropping}
use Rattle.stand_in_session.specs.declared.jobs.Dropping.TheVariants as dropping
use Rattle.stand_in_session.specs.declared.replies.TakenJob.{TakenJob}

-- the line of a job that was taken, or that no picture is due
abbrev pub taken_line : Option TakenJob → List ℕ
taken_line (Some job) =
    codes "job " ++ (decimal job.number ++ (codes " unit " ++ (decimal job.unit ++ codes "\n")))
taken_line None = codes "job none\n"

-- what became of the result of a job, in a word; a result of no job that is out is like a job that
-- isn't out
abbrev pub landing_word : Result Landing NotOut → List ℕ
landing_word (Ok landing.Taken) = codes "taken"
landing_word (Ok landing.Stale) = codes "stale"
landing_word (Ok landing.Foreign) = codes "none"
landing_word (Err none) = codes "none"

-- the line of what became of the result of the job of a number
abbrev pub landed_line : ℕ → Result Landing NotOut → List ℕ
landed_line number answer =
    codes "land " ++ (decimal number ++ (codes " " ++ (landing_word answer ++ codes "\n")))

-- what became of a job that was given back, in a word
abbrev pub returning_word : Result Returning NotOut → List ℕ
returning_word (Ok returning.Returned) = codes "back"
returning_word (Ok returning.Foreign) = codes "none"
returning_word (Err none) = codes "none"

-- the line of what became of the job of a number that was given back
abbrev pub given_line : ℕ → Result Returning NotOut → List ℕ
given_line number answer =
    codes "give " ++ (decimal number ++ (codes " " ++ (returning_word answer ++ codes "\n")))

-- what came of dropping a unit's picture, in words
abbrev pub dropping_words : Dropping → List ℕ
dropping_words dropping.Dropped = codes "dropped"
dropping_words dropping.NotHeld = codes "not held"
dropping_words dropping.NoSuchUnit = codes "none"

-- the line of what came of dropping the picture of the unit of a number
abbrev pub dropped_line : ℕ → Dropping → List ℕ
dropped_line number answer =
    codes "drop " ++ (decimal number ++ (codes " " ++ (dropping_words answer ++ codes "\n")))

-- the line that no picture is cached any more
abbrev pub cleared_line : List ℕ
cleared_line = codes "cleared\n"

-- the line of pictures that were all decoded
abbrev pub settled_line : List ℕ
settled_line = codes "settled\n"
