-- Jobs that are taken for a unit, and pictures that are dropped, at the stand-in.
use Rattle.std.specs.Prelude.{ℕ, Option, Result}
use Rattle.picture_store.specs.declared.answers.TakeRefused.{TakeRefused}
use Rattle.stand_in_device.specs.Jobs.{JobValue}
use Rattle.stand_in_device.specs.KeyPictures.{IsPicture}
use Rattle.stand_in_device.specs.declared.picture.Picture.{Picture}
use Rattle.stream_session.specs.declared.showing.Dropped.TheVariants as dropped
use Rattle.stream_session.specs.Needing as generic
use Rattle.stand_in_session.specs.declared.jobs.Dropping.{Dropping}
use Rattle.stand_in_session.specs.declared.jobs.Dropping.TheVariants as droppings
use Rattle.stand_in_session.specs.Machines.{Machine}

-- a job is taken for the unit of the id
abbrev pub TakesFor : Machine → ℕ → ℕ → JobValue → Machine → Type 0
TakesFor old id unit job new = generic.TakesFor IsPicture old id unit job new

-- an answer to one who asks for a job for a unit, and which unit it is of
abbrev pub AnswersTakeWithUnitFor : Machine → ℕ → Result (Option (ℕ × JobValue)) TakeRefused → Machine → Type 0
AnswersTakeWithUnitFor old id answer new = generic.AnswersTakeWithUnitFor IsPicture old id answer new

-- an answer to one who asks for a job for a unit
abbrev pub AnswersTakeFor : Machine → ℕ → Result (Option JobValue) TakeRefused → Machine → Type 0
AnswersTakeFor old id answer new = generic.AnswersTakeFor IsPicture old id answer new

-- the picture of the unit of the id is dropped, or why it isn't
abbrev pub AnswersDrop : Machine → ℕ → Dropping → Machine → Type 0
AnswersDrop old id droppings.Dropped new =
    (picture : Picture) × generic.AnswersDrop IsPicture old id (dropped.Picture picture) new
AnswersDrop old id droppings.NotHeld new = generic.AnswersDrop IsPicture old id dropped.NotHeld new
AnswersDrop old id droppings.NoSuchUnit new = generic.AnswersDrop IsPicture old id dropped.NoSuchUnit new
