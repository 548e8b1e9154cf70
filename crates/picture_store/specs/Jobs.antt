-- Jobs that are taken, that land, and that are given back.
use Rattle.std.specs.Prelude.{◌≡◌, ℕ, ◌+◌, ◌<◌, List, [], ◌∷◌, ◌++◌, ◌↔◌, ◌⊎◌, ◌==◌, length, map, position, remove, slice_get, option_and_then, All, Contains, Option, None, Some, IfSome, Result, Ok, Err}
use Rattle.std.specs.Option.{option_map}
use Rattle.unit_outcomes.specs.declared.outcome.Outcome.{Outcome}
use Rattle.unit_outcomes.specs.declared.outcome.Outcome.TheVariants as outcomes
use Rattle.unit_outcomes.specs.declared.outcome.Plan.{Plan}
use Rattle.decode_jobs.specs.Inputs.{InputValue}
use Rattle.decode_jobs.specs.Jobs.{JobValue}
use Rattle.decode_jobs.specs.Keys.{Key}
use Rattle.picture_keys.specs.Known.{key_of, keys_of, known_after}
use Rattle.picture_keys.specs.Referred.{ShowsKnown}
use Rattle.picture_store.specs.declared.answers.TakeRefused.{TakeRefused}
use Rattle.picture_store.specs.declared.answers.TakeRefused.TheVariants.{JobsSpent, Memory}
use Rattle.picture_store.specs.declared.answers.JobAt.{JobAt}
use Rattle.picture_store.specs.declared.answers.Landing.{Landing}
use Rattle.picture_store.specs.declared.answers.Landing.TheVariants as landings
use Rattle.picture_store.specs.declared.answers.Returning.{Returning}
use Rattle.picture_store.specs.declared.answers.Returning.TheVariants as returnings
use Rattle.picture_store.specs.Pictures.{HoldMore, ReferToHeld}
use Rattle.picture_store.specs.Referenced.{AreInOrder}
use Rattle.picture_store.specs.Stores.{OutValue, StoreValue, units_of, IsInUse, IsReady}

-- how many numbers of jobs there are
abbrev pub most_jobs : ℕ
most_jobs = 18446744073709551615

module _ {P : Type 0} where
  -- the key is due: it is in use, its picture isn't held, it is in no job that is out, and the
  -- pictures at its own entries are held
  pub record IsDue (store : StoreValue P) (key : Key) : Type 0 where
    pub in_use : IsInUse store key
    pub awaited : Contains store.held key → ⊥
    pub free : Contains (map (λ job. job.key) store.jobs_out) key → ⊥
    pub ready : IsReady store.held key

  -- some key is due
  abbrev pub IsAnyDue : StoreValue P → Type 0
  IsAnyDue store = (key : Key) × IsDue store key

module _ {P : Type 0} (IsOf : Key → P → Type 0) where
  -- the job of the unit at a place, which is due, is given: under the next number, with the requests
  -- of that unit and the pictures of their references, each once, in the order of the decoded
  -- picture buffer, and each of which is held
  pub record Gives (old : StoreValue P) (at : ℕ) (job : JobValue P) (new : StoreValue P) : Type 0 where
    pub before : List (ℕ × Outcome)
    pub id : ℕ
    pub plan : Plan
    pub after : List (ℕ × Outcome)
    pub stands : units_of old ≡ before ++ (id, outcomes.Plan plan) ∷ after
    pub at_is : at ≡ length before
    pub due : IsDue old (key_of (known_after [] before) plan.requests)
    pub number_is : job.number ≡ old.jobs_given + 1
    pub requests_are : job.input.requests ≡ plan.requests
    pub shows : ShowsKnown IsOf (known_after [] before) job.input
    pub order : AreInOrder job.input
    pub held : ReferToHeld old.pictures job.input.references
    pub new_is : new ≡ record old {
      jobs_out = old.jobs_out ++ (record {
        number = job.number;
        key = key_of (known_after [] before) plan.requests;
        input = job.input;
      }) ∷ [];
      jobs_given = job.number;
    }

  -- a job is taken: that of the due key whose unit stands earliest is given
  pub record Takes (old : StoreValue P) (job : JobValue P) (new : StoreValue P) : Type 0 where
    pub at : ℕ
    pub gives : Gives old at job new
    pub earliest : All (λ key. IfSome key (λ key. IsDue old key → ⊥)) (keys_of gives.before)

  -- what `take` answers: a job, that none is due, or why none is given though one is due
  abbrev pub AnswersTake : StoreValue P → Result (Option (JobValue P)) TakeRefused → StoreValue P → Type 0
  AnswersTake old (Ok (Some job)) new = Takes old job new
  AnswersTake old (Ok None) new = (IsAnyDue old → ⊥) × (new ≡ old)
  AnswersTake old (Err JobsSpent) new = IsAnyDue old × (old.jobs_given ≡ most_jobs) × (new ≡ old)
  AnswersTake old (Err Memory) new = IsAnyDue old × (old.jobs_given < most_jobs) × (new ≡ old)

  -- what `take` tells: what it answers, and of a job at which place its unit stands
  abbrev pub AnswersTakeWithUnit : StoreValue P → Result (Option (JobAt P)) TakeRefused → StoreValue P → Type 0
  AnswersTakeWithUnit old (Ok (Some told)) new = (takes : Takes old told.job new) × (told.at ≡ takes.at)
  AnswersTakeWithUnit old (Ok None) new = AnswersTake old (Ok None) new
  AnswersTakeWithUnit old (Err refused) new = AnswersTake old (Err refused) new

module _ {P : Type 0} where
  -- the job that is out has this number and was given this to decode
  abbrev pub IsSameJob : JobValue P → OutValue P → Type 0
  IsSameJob job out = (out.number ≡ job.number) × (out.input ≡ job.input)

  -- no job that is out is this one
  abbrev pub IsForeign : StoreValue P → JobValue P → Type 0
  IsForeign store job = All (λ out. IsSameJob job out → ⊥) store.jobs_out

  -- this job is out, at a place among them
  pub record IsOut (store : StoreValue P) (job : JobValue P) (at : ℕ) (out : OutValue P) : Type 0 where
    pub stands : slice_get store.jobs_out at ≡ Some out
    pub is : IsSameJob job out

  -- without the job at the place
  abbrev pub without : StoreValue P → ℕ → StoreValue P
  without store at = record store { jobs_out = remove store.jobs_out at }

  -- a picture of the job that is out at a place lands: the job is out no more, and the picture is
  -- held where its key is in use and waits for one; else it isn't taken
  abbrev pub LandsAt : StoreValue P → ℕ → OutValue P → P → Landing → StoreValue P → Type 0
  LandsAt old at out picture landings.Foreign new = ⊥
  LandsAt old at out picture landings.Stale new =
      ((IsInUse old out.key → ⊥) ⊎ Contains old.held out.key) × (new ≡ without old at)
  LandsAt old at out picture landings.Taken new =
      IsInUse old out.key × (Contains old.held out.key → ⊥)
      × ((key : Key) → Contains new.held key ↔ (Contains old.held key ⊎ (key ≡ out.key)))
      × HoldMore old.pictures picture new.pictures
      × (new ≡ record (without old at) { held = new.held; pictures = new.pictures })

  -- so it is of the job that is out at a place, whichever that is
  abbrev pub LandsThere : StoreValue P → ℕ → P → Landing → StoreValue P → Type 0
  LandsThere old at picture landing new =
      (out : OutValue P) × (slice_get old.jobs_out at ≡ Some out) × LandsAt old at out picture landing new

  -- a picture of a job lands: that of no job that is out changes nothing
  abbrev pub AnswersLand : StoreValue P → JobValue P → P → Landing → StoreValue P → Type 0
  AnswersLand old job picture landings.Foreign new = IsForeign old job × (new ≡ old)
  AnswersLand old job picture landings.Stale new =
      (at : ℕ) × (out : OutValue P) × IsOut old job at out × LandsAt old at out picture landings.Stale new
  AnswersLand old job picture landings.Taken new =
      (at : ℕ) × (out : OutValue P) × IsOut old job at out × LandsAt old at out picture landings.Taken new

  -- a picture of the job of a number lands: where none that is out has it nothing changes
  abbrev pub AnswersLandOf : StoreValue P → ℕ → P → Landing → StoreValue P → Type 0
  AnswersLandOf old number picture landings.Foreign new =
      All (λ out. out.number ≡ number → ⊥) old.jobs_out × (new ≡ old)
  AnswersLandOf old number picture landings.Stale new =
      (at : ℕ) × (out : OutValue P) × (slice_get old.jobs_out at ≡ Some out) × (out.number ≡ number)
      × LandsAt old at out picture landings.Stale new
  AnswersLandOf old number picture landings.Taken new =
      (at : ℕ) × (out : OutValue P) × (slice_get old.jobs_out at ≡ Some out) × (out.number ≡ number)
      × LandsAt old at out picture landings.Taken new

module _ {P : Type 0} (IsDecoded : InputValue P → P → Type 0) where
  -- a result lands: a picture that the decoder made of the job
  abbrev pub AnswersResult : StoreValue P → JobValue P → Landing → StoreValue P → Type 0
  AnswersResult old job landing new =
      (picture : P) × IsDecoded job.input picture × AnswersLand old job picture landing new

module _ {P : Type 0} where
  -- a job is given back: one that isn't out changes nothing; else it is out no more
  abbrev pub AnswersGiveBack : StoreValue P → JobValue P → Returning → StoreValue P → Type 0
  AnswersGiveBack old job returnings.Foreign new = IsForeign old job × (new ≡ old)
  AnswersGiveBack old job returnings.Returned new =
      (at : ℕ) × (out : OutValue P) × IsOut old job at out × (new ≡ without old at)

  -- what the first job of the number was given to decode, if one of these has it
  abbrev pub input_of : List (OutValue P) → ℕ → Option (InputValue P)
  input_of jobs number =
      option_map (λ job. job.input)
      (option_and_then (slice_get jobs) (position (λ job. job.number == number) jobs))

  -- the job of the number is given back: where none that is out has it nothing changes; else it is
  -- out no more
  abbrev pub AnswersGiveBackOf : StoreValue P → ℕ → Returning → StoreValue P → Type 0
  AnswersGiveBackOf old number returnings.Foreign new = All (λ out. out.number ≡ number → ⊥) old.jobs_out × (new ≡ old)
  AnswersGiveBackOf old number returnings.Returned new =
      (at : ℕ) × (out : OutValue P) × (slice_get old.jobs_out at ≡ Some out) × (out.number ≡ number) × (new ≡ without old at)
