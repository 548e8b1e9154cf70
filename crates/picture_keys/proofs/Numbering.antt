-- Numbers that stand for keys: the nodes made of them are those of the keys.
use Rattle.std.proofs.Common.{◌≡◌, refl, ap, sym, ◌∙◌, ℕ, ◌==◌, List, [], ◌∷◌, ◌++◌, map, Bool, true, false, Option, None, Some, if◌then◌else◌, rules}
use Rattle.std.proofs.lemmas.List.{map-append}
use Rattle.std.specs.Prelude.{option_and_then}
use Rattle.std.specs.List.{flat_map}
use Rattle.h264_controls.specs.declared.request.Request.{Request}
use Rattle.h264_controls.specs.declared.request.RequestBody.{RequestBody}
use Rattle.decode_jobs.specs.KeyMaps.{KeyMap, tree_at, tree_from, tree_of, named, IsLive, AreLive, Extends}
use Rattle.decode_jobs.specs.Keys.{Key, bodies_of, named_by, named_by_all, tree_with}
use Rattle.picture_keys.specs.Known.{Known, key_at, key_of, known_with}
use Rattle.picture_keys.specs.Numbered.{Numbers, number_at, number_named, numbers_in, numbers_named, StandsFor, AreNumbered}

module _ (keys : KeyMap (List RequestBody)) where
  named_stands : (number : Option ℕ) (key : Option Key) → StandsFor keys number key → named keys number ≡ key
  named_stands None key h = sym h
  named_stands (Some number) None h = absurd h
  named_stands (Some number) (Some key) h = h

  live_stands : (number : Option ℕ) (key : Option Key) → StandsFor keys number key → IsLive keys number
  live_stands None key h = tt
  live_stands (Some number) None h = absurd h
  live_stands (Some number) (Some key) h = search (rules, h)

  module _ (numbers : Numbers) (known : Known) (h : AreNumbered keys numbers known) where
    unit_stands : (unit : Option ℕ)
        → StandsFor keys (option_and_then (number_at numbers) unit) (option_and_then (key_at known) unit)
    unit_stands None = refl
    unit_stands (Some id) = h id

    units_stand : (bodies : List RequestBody) (units : List (Option ℕ))
        → tree_from keys bodies (map (number_named numbers) units)
        ≡ tree_with bodies (map (λ unit. option_and_then (key_at known) unit) units)
    units_stand bodies [] = refl
    units_stand bodies (unit ∷ units) =
        rw (named_stands _ _ (unit_stands unit), units_stand bodies units) refl

    units_live : (units : List (Option ℕ)) → AreLive keys (map (number_named numbers) units)
    units_live [] = tt
    units_live (unit ∷ units) = (live_stands _ _ (unit_stands unit), units_live units)

-- what is made of each item of many lists, one after the other
pub map_flat : {A B C : Type 0} (g : B → C) (f : A → List B) (xs : List A)
    → map g (flat_map f xs) ≡ flat_map (λ x. map g (f x)) xs
map_flat g f [] = refl
map_flat g f (x ∷ xs) = map-append g (f x) (flat_map f xs) ∙ ap (λ rest. map g (f x) ++ rest) (map_flat g f xs)

-- the numbers at the entries are those of the units that are named
pub numbered_all : (numbers : Numbers) (requests : List Request)
    → numbers_named numbers requests ≡ map (number_named numbers) (named_by_all requests)
unfolding numbers_in
numbered_all numbers requests = sym (map_flat (number_named numbers) named_by requests)

-- the node's tree is the key of the requests
pub node_stands : (keys : KeyMap (List RequestBody)) (numbers : Numbers) (known : Known) → AreNumbered keys numbers known
    → (requests : List Request)
    → tree_of keys (record { content = bodies_of requests; entries = numbers_named numbers requests })
    ≡ key_of known requests
node_stands keys numbers known h requests =
    ap (λ entries. tree_from keys (bodies_of requests) entries) (numbered_all numbers requests)
    ∙ units_stand keys numbers known h (bodies_of requests) (named_by_all requests)

-- the node's entries are live
pub node_live : (keys : KeyMap (List RequestBody)) (numbers : Numbers) (known : Known) → AreNumbered keys numbers known
    → (requests : List Request) → AreLive keys (numbers_named numbers requests)
node_live keys numbers known h requests =
    rw (numbered_all numbers requests) (units_live keys numbers known h (named_by_all requests))

pub extended : (keys more : KeyMap (List RequestBody)) → Extends keys more → (number : Option ℕ) (key : Option Key)
    → StandsFor keys number key → StandsFor more number key
extended keys more extends None key h = h
extended keys more extends (Some number) None h = h
extended keys more extends (Some number) (Some key) h = extends number key h

-- where keys are added, numbers go on standing for those that are known
pub numbered_more : (keys more : KeyMap (List RequestBody)) (numbers : Numbers) (known : Known) → Extends keys more
    → AreNumbered keys numbers known → AreNumbered more numbers known
numbered_more keys more numbers known extends h id = extended keys more extends _ _ (h id)

picked : (keys : KeyMap (List RequestBody)) (chosen : Bool) (number : ℕ) (key : Key) (other : Option ℕ) (before : Option Key)
    → tree_at keys number ≡ Some key → StandsFor keys other before
    → StandsFor keys (if chosen then Some number else other) (if chosen then Some key else before)
picked keys true number key other before there h = there
picked keys false number key other before there h = h

-- a unit more with the number of its key
pub numbered_with : (keys : KeyMap (List RequestBody)) (numbers more : Numbers) (known : Known) (id number : ℕ) (key : Key)
    → AreNumbered keys numbers known → tree_at keys number ≡ Some key
    → ((other : ℕ) → number_at more other ≡ (if id == other then Some number else number_at numbers other))
    → AreNumbered keys more (known_with known id (Some key))
numbered_with keys numbers more known id number key h there put other =
    rw (put other) (picked keys (id == other) number key (number_at numbers other) (key_at known other) there (h other))
