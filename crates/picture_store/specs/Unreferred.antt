-- Which pictures the jobs that are out refer to.
use Rattle.std.specs.Prelude.{◌≡◌, List, All}
use Rattle.decode_jobs.specs.declared.input.Reference.{Reference}
use Rattle.picture_store.specs.declared.job_out.JobOut.{JobOut}

module _ {P : Type 0} where
  -- no reference has the picture
  abbrev pub AreOthers : List (Reference P) → P → Type 0
  AreOthers references picture = All (λ reference. reference.picture ≡ picture → ⊥) references

  -- no job refers to the picture
  abbrev pub IsFree : List (JobOut P) → P → Type 0
  IsFree jobs picture = All (λ job. AreOthers job.input.references picture) jobs
