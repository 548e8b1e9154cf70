-- What a job is given to decode.
use Rattle.std.specs.Prelude.{◌≡◌, ℕ, IsTrue}
use Rattle.unit_outcomes.specs.declared.outcome.Outcome.{Outcome}
use Rattle.unit_outcomes.specs.declared.outcome.Outcome.TheVariants as outcomes
use Rattle.decode_jobs.specs.KeyMaps.{tree_at}
use Rattle.decode_jobs.specs.Inputs.{InputValue, is_whole}
use Rattle.picture_keys.specs.Known.{Known, key_of_outcome}
use Rattle.picture_keys.specs.Decodable.{OutcomeCanDecode}
use Rattle.picture_keys.specs.Referred.{ShowsKnown}
use Rattle.picture_store.specs.Stored.{Trees}
use Rattle.picture_store.specs.Referenced.{AreInOrder}
use Rattle.decode_jobs.specs.Keys.{Key}

-- after these known keys the unit that becomes so has the key of the number, and can be decoded
pub record HasKnown (keys : Trees) (outcome : Outcome) (number : ℕ) (known : Known) : Type 0 where
  pub tree : tree_at keys number ≡ key_of_outcome known outcome
  pub decodes : OutcomeCanDecode known outcome

module _ {P : Type 0} (IsOf : Key → P → Type 0) where
  -- the input is that of the unit: its requests, with the pictures of the keys that they name, each
  -- once, in the order of the decoded picture buffer
  abbrev pub IsInputOf : Known → Outcome → InputValue P → Type 0
  IsInputOf known (outcomes.Plan plan) input =
      (input.requests ≡ plan.requests) × ShowsKnown IsOf known input × IsTrue (is_whole input) × AreInOrder input
  IsInputOf known (outcomes.Fault fault) input = ⊥
  IsInputOf known outcomes.Empty input = ⊥
