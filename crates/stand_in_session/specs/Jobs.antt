-- Jobs of a session over the pictures of the stand-in.
use Rattle.std.specs.Prelude.{ℕ, Option, Result}
use Rattle.picture_store.specs.declared.answers.Landing.{Landing}
use Rattle.picture_store.specs.declared.answers.TakeRefused.{TakeRefused}
use Rattle.stand_in_device.specs.Jobs.{JobValue}
use Rattle.stand_in_device.specs.KeyPictures.{IsMade, IsPicture}
use Rattle.stream_session.specs.Jobs as generic
use Rattle.stand_in_session.specs.Machines.{Machine}

-- an answer to one who asks for a job
abbrev pub AnswersTake : Machine → Result (Option JobValue) TakeRefused → Machine → Type 0
AnswersTake old answer new = generic.AnswersTake IsPicture old answer new

-- an answer to one who asks for a job and its unit
abbrev pub AnswersTakeWithUnit : Machine → Result (Option (ℕ × JobValue)) TakeRefused → Machine → Type 0
AnswersTakeWithUnit old answer new = generic.AnswersTakeWithUnit IsPicture old answer new

-- an answer to a job's result
abbrev pub AnswersLand : Machine → JobValue → Landing → Machine → Type 0
AnswersLand old job answer new = generic.AnswersLand IsMade old job answer new
