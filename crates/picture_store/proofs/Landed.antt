-- What becomes of the jobs that are out, and of held pictures where a result lands.
use Rattle.std.proofs.Common.{◌≡◌, refl, ap, sym, ◌∙◌, subst, ℕ, zero, suc, ◌<◌, ◌==◌, List, [], ◌∷◌, length, map, take, drop, Bool, true, false, Option, None, Some, IsSome, if◌then◌else◌, inl, inr, ◌⊎◌, ◌↔◌, arith}
use Rattle.std.specs.Prelude.{All, Contains, remove, slice_get, slice_index_or}
use Rattle.std.specs.Option.{is_some}
use Rattle.std.specs.List.{zip}
use Rattle.std.proofs.lemmas.List.{length-map, map-append, take-map, drop-map}
use Rattle.std.proofs.lemmas.List.Elements.{All-append, All-take, All-drop, All-map}
use Rattle.std.proofs.lemmas.Bool.{eqb-true, eq-eqb}
use Rattle.std.proofs.lemmas.Option.{same_Some}
use Rattle.unit_outcomes.specs.declared.outcome.Outcome.{Outcome}
use Rattle.decode_jobs.specs.KeyMaps.{tree_at}
use Rattle.decode_jobs.specs.Jobs.{JobValue}
use Rattle.decode_jobs.specs.Keys.{Key}
use Rattle.picture_keys.specs.Known.{Known, key_of_outcome, known_with, keys_after, keys_of}
use Rattle.picture_keys.specs.Numbered.{StandsFor, AllStandFor}
use Rattle.picture_store.specs.declared.job_out.JobOut.{JobOut}
use Rattle.picture_store.specs.Stores.{OutValue}
use Rattle.picture_store.specs.Showing.{IsPictureAt}
use Rattle.picture_store.specs.Jobs.{IsSameJob, without}
use Rattle.held_pictures.specs.KeySlots.{place_at, numbers_held}
use Rattle.picture_store.specs.KeySlots.{KeySlotsValue}
use Rattle.picture_store.specs.Stored.{Trees, key_for, keys_for, jobs_for, IsRight, IsJobRight, IsSound}
use Rattle.held_pictures.proofs.Held.{held_found, found_held}
use Rattle.picture_store.proofs.Among.{held_among}
use Rattle.picture_store.proofs.Lifting.{for_contains, contains_for}
use Rattle.picture_store.proofs.Viewed.{none_not_some, Marked, seen, viewed}
use Rattle.picture_store.proofs.Stays.{key_is, stand_live, stand_number}
use Rattle.decode_jobs.specs.Inputs.{InputValue}

-- the item at a place, as it is seen
pub got_at : {X Y : Type 0} (f : X → Y) (xs : List X) (i : ℕ) (x : X) → i < length xs → x ≡ slice_index_or xs i x
    → slice_get (map f xs) i ≡ Some (f x)
got_at f [] i x within is = absurd (omega (arith, within))
got_at f (first ∷ xs) zero x within is = ap (λ y. Some (f y)) (sym is)
got_at f (first ∷ xs) (suc i) x within is = got_at f xs i x (omega (arith, within)) is

-- a place among the jobs that are seen is one among those that are out
pub within_out : {P : Type 0} (keys : Trees) (out : List (JobOut P)) (at : ℕ) → at < length (jobs_for keys out) → at < length out
within_out keys out at within = omega (arith, within, length-map out (seen keys))

-- without an item, as it is seen
pub map_remove : {X Y : Type 0} (f : X → Y) (xs : List X) (i : ℕ) → map f (remove xs i) ≡ remove (map f xs) i
map_remove f xs i =
    map-append f (take i xs) (drop (suc i) xs)
    ∙ rw (take-map f i xs, drop-map f (suc i) xs) refl

-- what holds of all holds of all but one
pub all_without : {X : Type 0} (P : X → Type 0) (xs : List X) (i : ℕ) → All P xs → All P (remove xs i)
all_without P xs i all = All-append P (take i xs) (drop (suc i) xs) (All-take P i xs all) (All-drop P (suc i) xs all)

-- a job that is not out isn't seen to be
pub foreign_for : {P : Type 0} (keys : Trees) (out : List (JobOut P)) (job : JobValue P)
    → All (λ (other : JobOut P). (other.number ≡ job.number) × (other.input ≡ job.input) → ⊥) out
    → All (λ other. IsSameJob job other → ⊥) (jobs_for keys out)
foreign_for keys out job none = All-map (λ other. IsSameJob job other → ⊥) (seen keys) out none

-- without a job that is out
pub seen_without : {P : Type 0} (keys : Trees) (ids : List ℕ) (outcomes : List Outcome) (numbers : List (Option ℕ)) (key_slots : KeySlotsValue P)
    (cached : List (ℕ × P)) (capacity : ℕ) (out more : List (JobOut P)) (given : ℕ) (released : List P) (marked : Marked) (at : ℕ) → more ≡ remove out at
    → viewed keys ids outcomes numbers key_slots cached capacity more given released marked
    ≡ without (viewed keys ids outcomes numbers key_slots cached capacity out given released marked) at
seen_without {P = P} keys ids outcomes numbers key_slots cached capacity out more given released marked at is =
    ap (λ (jobs : List (OutValue P)). record (viewed keys ids outcomes numbers key_slots cached capacity out given released marked) { jobs_out = jobs })
    (ap (jobs_for keys) is ∙ map_remove (seen keys) out at)

module _ {P : Type 0} {IsDecoded : InputValue P → P → Type 0} {IsOf : Key → P → Type 0} (keys : Trees) (ids : List ℕ) (outcomes : List Outcome) (numbers : List (Option ℕ)) (key_slots : KeySlotsValue P)
    (cached : List (ℕ × P)) (out : List (JobOut P)) (kept : IsSound IsDecoded IsOf keys ids outcomes numbers key_slots cached out) where
  pub kept_without : (at : ℕ) → IsSound IsDecoded IsOf keys ids outcomes numbers key_slots cached (remove out at)
  kept_without at = record {
    right = kept.right;
    same = kept.same;
    stand = kept.stand;
    decodable = kept.decodable;
    used = kept.used;
    stored = kept.stored;
    jobs = all_without (IsJobRight IsDecoded IsOf keys) out at kept.jobs;
  }

  module _ (number : ℕ) (key : Key) (live : tree_at keys number ≡ Some key) where
    place_of_use : Contains (keys_of (zip ids outcomes)) (Some (key_for keys number)) → IsSome (place_at key_slots number)
    place_of_use is =
        let unit : (n : ℕ) × Contains numbers (Some n) × (tree_at keys n ≡ Some key) =
        stand_number keys numbers (keys_of (zip ids outcomes)) kept.stand key
        (subst (λ (k : Key). Contains (keys_of (zip ids outcomes)) (Some k)) (key_is keys number key live) is) in
        (kept.used number).1
        (subst (λ n. Contains numbers (Some n)) (kept.right.one.trees unit.0 number key unit.2 live) unit.1)

    -- a key without a place isn't in use
    pub unused_for : place_at key_slots number ≡ None
        → Contains (keys_of (zip ids outcomes)) (Some (key_for keys number)) → ⊥
    unused_for none is = none_not_some (place_at key_slots number) none (place_of_use is)

    -- a key whose place has a picture is held
    pub held_for : (picture : P) → place_at key_slots number ≡ Some (Some picture)
        → Contains (keys_for keys (numbers_held key_slots)) (key_for keys number)
    held_for picture is =
        contains_for keys (numbers_held key_slots) number (found_held key_slots number picture is)

    -- a key that has a place is in use
    pub used_for_place : (picture : Option P) → place_at key_slots number ≡ Some picture
        → Contains (keys_of (zip ids outcomes)) (Some (key_for keys number))
    used_for_place picture is =
        let unit : (k : Key) × (tree_at keys number ≡ Some k) × Contains (keys_of (zip ids outcomes)) (Some k) =
        stand_live keys numbers (keys_of (zip ids outcomes)) kept.stand number ((kept.used number).0 (ap is_some is)) in
        subst (λ (k : Key). Contains (keys_of (zip ids outcomes)) (Some k)) (sym (key_is keys number unit.0 unit.1)) unit.2

    two_places : (o : Option (Option P)) (picture : P) → o ≡ Some (Some picture) → o ≡ Some None → ⊥
    two_places o picture held awaited = cc

    -- a key whose place has none isn't held
    pub awaited_for : place_at key_slots number ≡ Some None
        → Contains (keys_for keys (numbers_held key_slots)) (key_for keys number) → ⊥
    awaited_for awaited is =
        let source : (n : ℕ) × Contains (numbers_held key_slots) n × (key_for keys n ≡ key_for keys number) =
        for_contains keys (numbers_held key_slots) (key_for keys number) is in
        let held : (picture : P) × (place_at key_slots source.0 ≡ Some (Some picture)) =
        held_found key_slots source.0 source.1 in
        let right : IsRight IsDecoded IsOf keys source.0 held.0 = kept.right.held source.0 held.0 held.1 in
        let tree : tree_at keys source.0 ≡ Some key =
        right.1 ∙ ap Some (sym (key_is keys source.0 right.0 right.1) ∙ source.2 ∙ key_is keys number key live) in
        let same : source.0 ≡ number = kept.right.one.trees source.0 number key tree live in
        two_places (place_at key_slots number) held.0 (subst (λ n. place_at key_slots n ≡ Some (Some held.0)) same held.1) awaited

    picked : (b : Bool) (place other : Option (Option P)) → IsSome other → IsSome place
        → IsSome (if b then place else other)
    picked true place other others is = is
    picked false place other others is = others

    -- a picture is put into the place of the key
    module _ (picture : P) (right : IsRight IsDecoded IsOf keys number picture) (awaited : place_at key_slots number ≡ Some None)
        (more : KeySlotsValue P)
        (put : (other : ℕ) → place_at more other
        ≡ (if number == other then Some (Some picture) else place_at key_slots other)) where
      put_there : place_at more number ≡ Some (Some picture)
      put_there =
          put number
          ∙ ap (λ b. if b then Some (Some picture) else place_at key_slots number) (eq-eqb number number refl)

      split : (b : Bool) (other : ℕ) (shown : P) → b ≡ (number == other)
          → (if b then Some (Some picture) else place_at key_slots other) ≡ Some (Some shown)
          → ((number ≡ other) × (picture ≡ shown)) ⊎ (place_at key_slots other ≡ Some (Some shown))
      split true other shown is same = inl (eqb-true number other (sym is), cc)
      split false other shown is same = inr same

      -- a picture that is held afterwards is the new one, or was held
      held_then : (other : ℕ) (shown : P) → place_at more other ≡ Some (Some shown)
          → ((number ≡ other) × (picture ≡ shown)) ⊎ (place_at key_slots other ≡ Some (Some shown))
      held_then other shown is = split (number == other) other shown refl (sym (put other) ∙ is)

      stays_held : (b : Bool) (other : ℕ) (shown : P) → place_at key_slots other ≡ Some (Some shown)
          → (kept_picture : P) × ((if b then Some (Some picture) else place_at key_slots other) ≡ Some (Some kept_picture))
      stays_held true other shown is = (picture, refl)
      stays_held false other shown is = (shown, is)

      there_before : (b : Bool) (other : ℕ) → b ≡ (number == other)
          → IsSome (if b then Some (Some picture) else place_at key_slots other) → IsSome (place_at key_slots other)
      there_before true other is some =
          ap is_some (subst (λ n. place_at key_slots n ≡ Some None) (eqb-true number other (sym is)) awaited)
      there_before false other is some = some

      used_then : (other : ℕ) → IsSome (place_at more other) ↔ Contains numbers (Some other)
      used_then other = (
        λ is. (kept.used other).0 (there_before (number == other) other refl (subst IsSome (put other) is)),
        λ is. subst IsSome (sym (put other))
            (picked (number == other) (Some (Some picture)) (place_at key_slots other) ((kept.used other).1 is) refl),
      )

      right_then : (other : ℕ) (shown : P) → place_at more other ≡ Some (Some shown) → IsRight IsDecoded IsOf keys other shown
      right_then other shown is =
          elim (held_then other shown is) [
            | inl same ↦
                subst (λ n. IsRight IsDecoded IsOf keys n shown) same.0 (subst (λ p. IsRight IsDecoded IsOf keys number p) same.1 right)
            | inr before ↦ kept.right.held other shown before
          ]

      pub kept_landed : IsSound IsDecoded IsOf keys ids outcomes numbers more cached out
      kept_landed = record {
        right = record { one = kept.right.one; held = right_then };
        same = kept.same;
        stand = kept.stand;
        decodable = kept.decodable;
        used = used_then;
        stored = kept.stored;
        jobs = kept.jobs;
      }

      -- what is held afterwards is what was held, and the key
      pub held_landed : (other : Key) → Contains (keys_for keys (numbers_held more)) other
          ↔ (Contains (keys_for keys (numbers_held key_slots)) other ⊎ (other ≡ key_for keys number))
      held_landed other = (
        λ is.
            let source : (n : ℕ) × Contains (numbers_held more) n × (key_for keys n ≡ other) =
            for_contains keys (numbers_held more) other is in
            let held : (shown : P) × (place_at more source.0 ≡ Some (Some shown)) =
            held_found more source.0 source.1 in
            elim (held_then source.0 held.0 held.1) [
              | inl same ↦ inr (sym source.2 ∙ ap (key_for keys) (sym same.0))
              | inr before ↦ inl (subst (Contains (keys_for keys (numbers_held key_slots))) source.2
                  (contains_for keys (numbers_held key_slots) source.0 (found_held key_slots source.0 held.0 before)))
            ],
        λ is. elim is [
          | inl was ↦
              let source : (n : ℕ) × Contains (numbers_held key_slots) n × (key_for keys n ≡ other) =
              for_contains keys (numbers_held key_slots) other was in
              let held : (shown : P) × (place_at key_slots source.0 ≡ Some (Some shown)) =
              held_found key_slots source.0 source.1 in
              let still : (shown : P) × ((if number == source.0 then Some (Some picture) else place_at key_slots source.0) ≡ Some (Some shown)) =
              stays_held (number == source.0) source.0 held.0 held.1 in
              subst (Contains (keys_for keys (numbers_held more))) source.2
              (contains_for keys (numbers_held more) source.0
              (found_held more source.0 still.0 (put source.0 ∙ still.1)))
          | inr new ↦
              subst (Contains (keys_for keys (numbers_held more))) (sym new)
              (contains_for keys (numbers_held more) number (found_held more number picture put_there))
        ],
      )

-- what stands at the place of a unit
got_keys : (keys : Trees) (numbers : List (Option ℕ)) (trees : List (Option Key)) → AllStandFor keys numbers trees
    → (at : ℕ) (number : Option ℕ) → at < length numbers → number ≡ slice_index_or numbers at number
    → (tree : Option Key) × (slice_get trees at ≡ Some tree) × StandsFor keys number tree
got_keys keys [] [] all at number within is = absurd (omega (arith, within))
got_keys keys [] (tree ∷ trees) all at number within is = absurd all
got_keys keys (first ∷ numbers) [] all at number within is = absurd all
got_keys keys (first ∷ numbers) (tree ∷ trees) all zero number within is =
    (tree, refl, subst (λ (n : Option ℕ). StandsFor keys n tree) (sym is) all.0)
got_keys keys (first ∷ numbers) (tree ∷ trees) all (suc at) number within is =
    got_keys keys numbers trees all.1 at number (omega (arith, within)) is

-- there is a number for each key
pub stand_length : (keys : Trees) (numbers : List (Option ℕ)) (trees : List (Option Key)) → AllStandFor keys numbers trees
    → length numbers ≡ length trees
stand_length keys [] [] all = refl
stand_length keys [] (tree ∷ trees) all = absurd all
stand_length keys (first ∷ numbers) [] all = absurd all
stand_length keys (first ∷ numbers) (tree ∷ trees) all = ap suc (stand_length keys numbers trees all.1)

-- there is a key, or nothing, for each unit
length-keys_after : (known : Known) (units : List (ℕ × Outcome)) → length (keys_after known units) ≡ length units
length-keys_after known [] = refl
length-keys_after known (unit ∷ units) =
    ap suc (length-keys_after (known_with known unit.0 (key_of_outcome known unit.1)) units)

pub length-zip_same : {A B : Type 0} (xs : List A) (ys : List B) → length xs ≡ length ys → length (zip xs ys) ≡ length xs
length-zip_same [] [] same = refl
length-zip_same [] (y ∷ ys) same = refl
length-zip_same (x ∷ xs) [] same = absurd (omega (arith, same))
length-zip_same (x ∷ xs) (y ∷ ys) same = ap suc (length-zip_same xs ys (omega (arith, same)))

module _ {P : Type 0} {IsDecoded : InputValue P → P → Type 0} {IsOf : Key → P → Type 0} (keys : Trees) (ids : List ℕ) (outcomes : List Outcome) (numbers : List (Option ℕ)) (key_slots : KeySlotsValue P)
    (cached : List (ℕ × P)) (capacity : ℕ) (out : List (JobOut P)) (given : ℕ) (released : List P) (marked : Marked)
    (kept : IsSound IsDecoded IsOf keys ids outcomes numbers key_slots cached out) where
  -- each unit has a number, or nothing
  pub found_length : length numbers ≡ length ids
  found_length =
      stand_length keys numbers (keys_of (zip ids outcomes)) kept.stand
      ∙ length-keys_after [] (zip ids outcomes)
      ∙ length-zip_same ids outcomes kept.same

  module _ (at : ℕ) (within : at < length numbers) where
    no_key : (tree : Option Key) → slice_get (keys_of (zip ids outcomes)) at ≡ Some tree → tree ≡ None
        → (key : Key) → slice_get (keys_of (zip ids outcomes)) at ≡ Some (Some key) → ⊥
    no_key tree is none key has = cc

    one_key : (first second : Key) → slice_get (keys_of (zip ids outcomes)) at ≡ Some (Some first)
        → slice_get (keys_of (zip ids outcomes)) at ≡ Some (Some second) → first ≡ second
    one_key first second is has = cc

    some_key : (number : ℕ) (tree : Option Key) → StandsFor keys (Some number) tree
        → (key : Key) × (tree ≡ Some key) × (tree_at keys number ≡ Some key)
    some_key number None stands = absurd stands
    some_key number (Some key) stands = (key, refl, stands)

    -- a unit without a key shows no picture
    pub shows_none : None ≡ slice_index_or numbers at None
        → IsPictureAt IsOf (viewed keys ids outcomes numbers key_slots cached capacity out given released marked) at None
    shows_none is key has held =
        let got : (tree : Option Key) × (slice_get (keys_of (zip ids outcomes)) at ≡ Some tree) × StandsFor keys None tree =
        got_keys keys numbers (keys_of (zip ids outcomes)) kept.stand at None within is in
        no_key got.0 got.1 got.2 key has

    module _ (number : ℕ) (is : Some number ≡ slice_index_or numbers at (Some number)) where
      pub keyed : (key : Key) × (slice_get (keys_of (zip ids outcomes)) at ≡ Some (Some key)) × (tree_at keys number ≡ Some key)
      keyed =
          let got : (tree : Option Key) × (slice_get (keys_of (zip ids outcomes)) at ≡ Some tree) × StandsFor keys (Some number) tree =
          got_keys keys numbers (keys_of (zip ids outcomes)) kept.stand at (Some number) within is in
          let some : (key : Key) × (got.0 ≡ Some key) × (tree_at keys number ≡ Some key) = some_key number got.0 got.2 in
          (some.0, got.1 ∙ ap Some some.1, some.2)

      -- a picture that is held is shown
      pub shows_held : (picture : P) → place_at key_slots number ≡ Some (Some picture)
          → IsPictureAt IsOf (viewed keys ids outcomes numbers key_slots cached capacity out given released marked) at (Some picture)
      shows_held picture held =
          let right : IsRight IsDecoded IsOf keys number picture = kept.right.held number picture held in
          let same : key_for keys number ≡ keyed.0 = key_is keys number keyed.0 keyed.2 in (
            keyed.0,
            keyed.1,
            subst (Contains (keys_for keys (numbers_held key_slots))) same
                (contains_for keys (numbers_held key_slots) number (found_held key_slots number picture held)),
            subst (λ k. IsOf k picture) (same_Some right.0 keyed.0 (sym right.1 ∙ keyed.2)) right.2,
            held_among key_slots number picture held,
          )

      -- else none is
      pub shows_waited : ((picture : P) → place_at key_slots number ≡ Some (Some picture) → ⊥)
          → IsPictureAt IsOf (viewed keys ids outcomes numbers key_slots cached capacity out given released marked) at None
      shows_waited not key has held =
          let same : keyed.0 ≡ key = one_key keyed.0 key keyed.1 has in
          let source : (n : ℕ) × Contains (numbers_held key_slots) n × (key_for keys n ≡ key) =
          for_contains keys (numbers_held key_slots) key held in
          let there : (picture : P) × (place_at key_slots source.0 ≡ Some (Some picture)) =
          held_found key_slots source.0 source.1 in
          let right : IsRight IsDecoded IsOf keys source.0 there.0 = kept.right.held source.0 there.0 there.1 in
          let tree : tree_at keys source.0 ≡ Some keyed.0 =
          right.1 ∙ ap Some (sym (key_is keys source.0 right.0 right.1) ∙ source.2 ∙ sym same) in
          let one : source.0 ≡ number = kept.right.one.trees source.0 number keyed.0 tree keyed.2 in
          not there.0 (subst (λ n. place_at key_slots n ≡ Some (Some there.0)) one there.1)

      no_picture : (o : Option (Option P)) (picture : P) → o ≡ None → o ≡ Some (Some picture) → ⊥
      no_picture o picture none some = cc

      no_inner : (o : Option (Option P)) (picture : P) → o ≡ Some None → o ≡ Some (Some picture) → ⊥
      no_inner o picture none some = cc

      -- what stands at the key's place is shown
      pub shows_place : (shown : Option P) → place_at key_slots number ≡ Some shown
          → IsPictureAt IsOf (viewed keys ids outcomes numbers key_slots cached capacity out given released marked) at shown
      shows_place None is = shows_waited (λ picture held. no_inner (place_at key_slots number) picture is held)
      shows_place (Some picture) is = shows_held picture is

      -- where the key has no place, none is
      pub shows_unused : place_at key_slots number ≡ None
          → IsPictureAt IsOf (viewed keys ids outcomes numbers key_slots cached capacity out given released marked) at None
      shows_unused is = shows_waited (λ picture held. no_picture (place_at key_slots number) picture is held)
