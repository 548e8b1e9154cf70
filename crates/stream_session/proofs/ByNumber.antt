-- Jobs that are out, by their numbers.
use Rattle.std.proofs.Common.{◌≡◌, ℕ, ◌==◌, List, get_or, map, Option, None, Some, option_map, refl, ap, sym, ◌∙◌}
use Rattle.std.specs.Prelude.{All, Contains, position, slice_get, slice_index_or, option_and_then}
use Rattle.std.proofs.lemmas.Bool.{eq-eqb, eqb-true}
use Rattle.std.proofs.lemmas.List.Elements.{Contains-get_or}
use Rattle.std.proofs.lemmas.List.Quantifiers.{position-Some}
use Rattle.std.proofs.lemmas.Option.{slice_get-map, slice_get-get_or}
use Rattle.decode_jobs.specs.Inputs.{InputValue}
use Rattle.decode_jobs.specs.Jobs.{JobValue}
use Rattle.picture_store.specs.Jobs as pictures
use Rattle.picture_store.specs.Stores.{OutValue, StoreValue}
use Rattle.picture_store.proofs.ByNumber.{none_passes, position_map}
use Rattle.stream_edits.specs.declared.edits.Edit.{Edit}
use Rattle.stream_edits.specs.Edits.{Register}
use Rattle.stream_session.specs.Jobs.{KeepsStream}
use Rattle.stream_session.specs.Stored.{machine_of}
use Rattle.stream_session.specs.Machines.{Machine, store_of}
use Rattle.stream_session.specs.Taken.{as_taken, input_among}

module _ {P : Type 0} where
  -- a machine is its stream's and its pictures'
  pub same_machine : (old new : Machine P) → store_of new ≡ store_of old → KeepsStream old new → new ≡ old
  same_machine old new pictures stream =
      ap (λ (store : StoreValue P). machine_of (record { origin = new.origin; entries = new.journal }) new.register store) pictures
      ∙ (ap (λ (entries : List (List Edit)). machine_of (record { origin = new.origin; entries = entries }) new.register (store_of old)) stream.0
      ∙ (ap (λ (origin : Register). machine_of (record { origin = origin; entries = old.journal }) new.register (store_of old)) stream.2
      ∙ ap (λ (register : Register). machine_of (record { origin = old.origin; entries = old.journal }) register (store_of old)) stream.1))

  -- what a job that is out is made of is what it was given
  pub input_same : (jobs : List (OutValue P)) (number : ℕ) → input_among (map as_taken jobs) number ≡ pictures.input_of jobs number
  input_same jobs number =
      at_place (position (λ (job : JobValue P). job.number == number) (map as_taken jobs))
      ∙ ap (λ (place : Option ℕ). option_map (λ (job : OutValue P). job.input) (option_and_then (slice_get jobs) place))
      (position_map (λ (job : JobValue P). job.number == number) as_taken jobs)
    where
      of_one : (job : Option (OutValue P)) → option_map (λ (j : JobValue P). j.input) (option_map as_taken job) ≡ option_map (λ (j : OutValue P). j.input) job
      of_one None = refl
      of_one (Some job) = refl

      at_place : (place : Option ℕ)
          → option_map (λ (job : JobValue P). job.input) (option_and_then (slice_get (map as_taken jobs)) place)
          ≡ option_map (λ (job : OutValue P). job.input) (option_and_then (slice_get jobs) place)
      at_place None = refl
      at_place (Some at) = ap (option_map (λ (job : JobValue P). job.input)) (slice_get-map as_taken jobs at) ∙ of_one (slice_get jobs at)

  module _ (jobs : List (JobValue P)) (number : ℕ) where
    -- the job of a number is among those that were taken
    pub taken_has : (input : InputValue P) → input_among jobs number ≡ Some input → Contains jobs (record { number = number; input = input })
    taken_has input is = at_place (position (λ (job : JobValue P). job.number == number) jobs) refl is
      where
        at_place : (place : Option ℕ) → position (λ (job : JobValue P). job.number == number) jobs ≡ place
            → option_map (λ (job : JobValue P). job.input) (option_and_then (slice_get jobs) place) ≡ Some input
            → Contains jobs (record { number = number; input = input })
        at_place None first there = absurd (cc)
        at_place (Some at) first there =
            let job : JobValue P = record { number = number; input = input } in
            let got : JobValue P = get_or jobs at job in
            let passes = position-Some (λ (other : JobValue P). other.number == number) jobs at job first in
            let stands : slice_get jobs at ≡ Some got = slice_get-get_or jobs at job passes.0 in
            let inputs : Some got.input ≡ Some input = sym (ap (option_map (λ (other : JobValue P). other.input)) stands) ∙ there in
            let same : got.input ≡ input = cc in (
              at,
              passes.0,
              ap (λ (n : ℕ). record { number = n; input = got.input }) (eqb-true got.number number passes.1)
                  ∙ ap (λ (i : InputValue P). record { number = number; input = i }) same,
            )

    -- where there is none, no job has the number
    pub none_taken : input_among jobs number ≡ None → All (λ job. job.number ≡ number → ⊥) jobs
    none_taken none k d within =
        at_place (position (λ (other : JobValue P). other.number == number) jobs) refl none (slice_index_or jobs k d)
        (Contains-get_or jobs k d within)
      where
        at_place : (place : Option ℕ) → position (λ (other : JobValue P). other.number == number) jobs ≡ place
            → option_map (λ (other : JobValue P). other.input) (option_and_then (slice_get jobs) place) ≡ None
            → (job : JobValue P) → Contains jobs job → job.number ≡ number → ⊥
        at_place None first lacks job among is =
            none_passes (λ (other : JobValue P). other.number == number) jobs first job among (eq-eqb job.number number is)
        at_place (Some at) first lacks job among is =
            let passes = position-Some (λ (other : JobValue P). other.number == number) jobs at job first in
            let some = ap (option_map (λ (other : JobValue P). other.input)) (slice_get-get_or jobs at job passes.0) in
            let never = sym lacks ∙ some in cc
