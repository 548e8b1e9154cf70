-- One unit more with the number of its key.
use Rattle.std.proofs.Common.{◌≡◌, refl, ap, ◌∙◌, ℕ, ◌==◌, List, [], ◌∷◌, ◌++◌, Option, Some, if◌then◌else◌}
use Rattle.h264_controls.specs.declared.request.RequestBody.{RequestBody}
use Rattle.unit_outcomes.specs.declared.outcome.Outcome.{Outcome}
use Rattle.unit_outcomes.specs.declared.outcome.Outcome.TheVariants as outcomes
use Rattle.unit_outcomes.specs.declared.outcome.Plan.{Plan}
use Rattle.decode_jobs.specs.KeyMaps.{KeyMap, tree_at, tree_of, Extends}
use Rattle.decode_jobs.specs.Keys.{Key, bodies_of}
use Rattle.picture_keys.specs.Known.{Known, key_of, key_of_outcome, known_with, known_after, keys_after}
use Rattle.picture_keys.specs.Numbered.{Numbers, number_at, numbers_named, StandsFor, AreNumbered, AllStandFor}
use Rattle.picture_keys.specs.Following.{UnitNumbers, Follow, HasNumber}
use Rattle.picture_keys.proofs.Numbering.{extended, node_stands, numbered_more, numbered_with}

pub known_more : (known : Known) (units : List (ℕ × Outcome)) (unit : ℕ × Outcome)
    → known_after known (units ++ unit ∷ [])
    ≡ known_with (known_after known units) unit.0 (key_of_outcome (known_after known units) unit.1)
known_more known [] unit = refl
known_more known (first ∷ units) unit =
    known_more (known_with known first.0 (key_of_outcome known first.1)) units unit

keys_more : (known : Known) (units : List (ℕ × Outcome)) (unit : ℕ × Outcome)
    → keys_after known (units ++ unit ∷ [])
    ≡ keys_after known units ++ key_of_outcome (known_after known units) unit.1 ∷ []
keys_more known [] unit = refl
keys_more known (first ∷ units) unit =
    ap (λ keys. key_of_outcome known first.1 ∷ keys)
    (keys_more (known_with known first.0 (key_of_outcome known first.1)) units unit)

pub all_extended : (keys more : KeyMap (List RequestBody)) → Extends keys more
    → (numbers : List (Option ℕ)) (trees : List (Option Key)) → AllStandFor keys numbers trees
    → AllStandFor more numbers trees
all_extended keys more extends [] [] all = tt
all_extended keys more extends [] (tree ∷ trees) all = absurd all
all_extended keys more extends (number ∷ numbers) [] all = absurd all
all_extended keys more extends (number ∷ numbers) (tree ∷ trees) all =
    (extended keys more extends number tree all.0, all_extended keys more extends numbers trees all.1)

all_with : (keys : KeyMap (List RequestBody)) (numbers : List (Option ℕ)) (trees : List (Option Key))
    (number : Option ℕ) (tree : Option Key) → AllStandFor keys numbers trees → StandsFor keys number tree
    → AllStandFor keys (numbers ++ number ∷ []) (trees ++ tree ∷ [])
all_with keys [] [] number tree all stands = (stands, tt)
all_with keys [] (first ∷ trees) number tree all stands = absurd all
all_with keys (first ∷ numbers) [] number tree all stands = absurd all
all_with keys (first ∷ numbers) (second ∷ trees) number tree all stands =
    (all.0, all_with keys numbers trees number tree all.1 stands)

-- a unit more, which was given the number of its key
pub follow_with : (keys more : KeyMap (List RequestBody)) (known : Known) (units : List (ℕ × Outcome)) (id : ℕ) (outcome : Outcome)
    (old new : UnitNumbers) (number : Option ℕ) → Extends keys more → Follow keys known units old
    → HasNumber more new.numbers (known_after known units) id outcome number
    → new.found ≡ old.found ++ number ∷ []
    → Follow more known (units ++ (id, outcome) ∷ []) new
follow_with keys more known units id outcome old new number extends follow has found = record {
  numbered = rw (known_more known units (id, outcome)) has.numbered;
  stand =
      rw (found, keys_more known units (id, outcome))
      (all_with more old.found (keys_after known units) number (key_of_outcome (known_after known units) outcome)
      (all_extended keys more extends old.found (keys_after known units) follow.stand) has.stands);
}

-- a valid unit is given the number of its key
pub has_key : (keys more : KeyMap (List RequestBody)) (numbers others : Numbers) (known : Known) (id : ℕ) (plan : Plan)
    (number : ℕ) → Extends keys more → AreNumbered keys numbers known
    → tree_at more number ≡ Some (tree_of keys
    (record { content = bodies_of plan.requests; entries = numbers_named numbers plan.requests }))
    → ((other : ℕ) → number_at others other ≡ (if id == other then Some number else number_at numbers other))
    → HasNumber more others known id (outcomes.Plan plan) (Some number)
has_key keys more numbers others known id plan number extends h there put =
    let stands : tree_at more number ≡ Some (key_of known plan.requests) =
    there ∙ ap Some (node_stands keys numbers known h plan.requests) in
    record {
      numbered =
          numbered_with more numbers others known id number (key_of known plan.requests)
          (numbered_more keys more numbers known extends h) stands put;
      stands = stands;
    }
