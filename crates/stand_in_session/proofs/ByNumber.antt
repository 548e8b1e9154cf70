-- Jobs that are given back by their numbers.
use Rattle.std.proofs.Common.{◌≡◌, ◌∙◌, ℕ, List, Option, Some, ap, option_map, refl}
use Rattle.std.specs.Prelude.{All, Contains, slice_get, Ok, Err}
use Rattle.std.proofs.lemmas.List.Elements.{All-map}
use Rattle.std.proofs.lemmas.Option.{slice_get-map, slice_get_within, get_or_from_slice_get}
use Rattle.picture_store.specs.declared.answers.Returning.TheVariants as returnings
use Rattle.stand_in_device.specs.Jobs.{JobValue}
use Rattle.stream_session.specs.Jobs.{AnswersGiveBackOf}
use Rattle.stream_session.specs.Taken.{as_taken, taken_of}
use Rattle.stream_session.proofs.ByNumber.{same_machine}
use Rattle.stand_in_session.specs.declared.replies.NotOut.{NotOut}
use Rattle.stand_in_session.specs.Machines.{Machine}
use Rattle.stand_in_session.specs.Runs.{GivesJobBack}

module _ (old new : Machine) (number : ℕ) where
  -- the job that is given back by its number was taken
  pub given_back : AnswersGiveBackOf old number returnings.Returned new → GivesJobBack old number (Ok returnings.Returned) new
  given_back is =
      let at = is.0.0 in
      let out = is.0.1 in (
        as_taken out,
        (is.0.3, among (slice_get-map as_taken old.jobs_out at ∙ ap (option_map as_taken) is.0.2)),
        ((at, out, record { stands = is.0.2; is = (refl, refl) }, is.0.4), is.1),
      )
    where
      among : slice_get (taken_of old) is.0.0 ≡ Some (as_taken is.0.1) → Contains (taken_of old) (as_taken is.0.1)
      among there = (is.0.0, slice_get_within (taken_of old) is.0.0 (as_taken is.0.1) there, get_or_from_slice_get (taken_of old) is.0.0 (as_taken is.0.1) (as_taken is.0.1) there)

  -- where it isn't out, none was
  pub none_given_back : (none : NotOut) → AnswersGiveBackOf old number returnings.Foreign new → GivesJobBack old number (Err none) new
  none_given_back none is = (All-map (λ (job : JobValue). job.number ≡ number → ⊥) as_taken old.jobs_out is.0.0, same_machine old new is.0.1 is.1)
