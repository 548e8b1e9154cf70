-- Pictures that go back to the host: one that is dropped, the one cached first, and those that were
-- let go.
use Rattle.std.specs.Prelude.{◌≡◌, ℕ, List, [], ◌∷◌, ◌++◌, ◌↔◌, All, Contains, IsPermutation, Option, None, Some}
use Rattle.decode_jobs.specs.Keys.{Key}
use Rattle.picture_store.specs.Pictures.{HoldMore}
use Rattle.picture_store.specs.Unreferred.{AreOthers}
use Rattle.picture_store.specs.Stores.{OutValue, StoreValue}
use Rattle.picture_store.specs.Showing.{HasKey}

module _ {P : Type 0} (IsOf : Key → P → Type 0) where
  -- the picture of the unit at a place goes back: its key is held no more, where it was
  abbrev pub AnswersDrop : StoreValue P → ℕ → Option P → StoreValue P → Type 0
  AnswersDrop old at (Some picture) new =
      (key : Key) × HasKey old at key × Contains old.held key × IsOf key picture
      × ((other : Key) → Contains new.held other ↔ (Contains old.held other × (other ≡ key → ⊥)))
      × HoldMore new.pictures picture old.pictures
      × (new ≡ record old { held = new.held; pictures = new.pictures })
  AnswersDrop old at None new = ((key : Key) → HasKey old at key → Contains old.held key → ⊥) × (new ≡ old)

  -- the picture that was cached first goes back, if one is cached
  abbrev pub AnswersUncache : StoreValue P → Option P → StoreValue P → Type 0
  AnswersUncache old (Some picture) new =
      (key : Key) × (old.cached ≡ new.cached ++ key ∷ []) × IsOf key picture
      × (old.pictures.cached ≡ new.pictures.cached ++ picture ∷ [])
      × (new ≡ record old {
        cached = new.cached;
        pictures = record old.pictures { cached = new.pictures.cached };
      })
  AnswersUncache old None new = (old.cached ≡ []) × (new ≡ old)

module _ {P : Type 0} where
  -- no job that is out refers to the picture
  abbrev pub IsUnreferred : List (OutValue P) → P → Type 0
  IsUnreferred jobs picture = All (λ job. AreOthers job.input.references picture) jobs

  -- a released picture goes back to which no job that is out refers, if there is one
  abbrev pub AnswersReleased : StoreValue P → Option P → StoreValue P → Type 0
  AnswersReleased old (Some picture) new =
      IsUnreferred old.jobs_out picture
      × IsPermutation old.pictures.released (picture ∷ new.pictures.released)
      × (new ≡ record old { pictures = record old.pictures { released = new.pictures.released } })
  AnswersReleased old None new = All (λ picture. IsUnreferred old.jobs_out picture → ⊥) old.pictures.released × (new ≡ old)
