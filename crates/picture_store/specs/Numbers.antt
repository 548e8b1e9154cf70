-- The numbers of refusals.
use Rattle.std.specs.Prelude.{ℕ}
use Rattle.picture_store.specs.declared.answers.TakeRefused.{TakeRefused}
use Rattle.picture_store.specs.declared.answers.TakeRefused.TheVariants.{JobsSpent, Memory}

-- the number of the refusal of a job
abbrev pub number_of : TakeRefused → ℕ
number_of JobsSpent = 1
number_of Memory = 2
