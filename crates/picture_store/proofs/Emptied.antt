-- What is held where the picture of a key is dropped.
use Rattle.std.proofs.Common.{◌≡◌, refl, sym, ap, subst, ◌∙◌, ℕ, List, Option, None, Some, IsSome, Contains, ◌↔◌, Bool, true, false, ◌==◌, if◌then◌else◌}
use Rattle.std.proofs.lemmas.Bool.{eqb-true, eq-eqb}
use Rattle.unit_outcomes.specs.declared.outcome.Outcome.{Outcome}
use Rattle.decode_jobs.specs.KeyMaps.{tree_at}
use Rattle.decode_jobs.specs.Keys.{Key}
use Rattle.held_pictures.specs.KeySlots.{place_at, numbers_held}
use Rattle.held_pictures.proofs.Held.{held_found, found_held}
use Rattle.picture_store.specs.declared.job_out.JobOut.{JobOut}
use Rattle.picture_store.specs.KeySlots.{KeySlotsValue}
use Rattle.picture_store.specs.Due.{IsHeld}
use Rattle.picture_store.specs.Stored.{Trees, key_for, keys_for, IsRight, IsSound}
use Rattle.picture_store.proofs.Lifting.{for_contains, contains_for}
use Rattle.picture_store.proofs.Stays.{key_is}
use Rattle.decode_jobs.specs.Inputs.{InputValue}

module _ {P : Type 0} {IsDecoded : InputValue P → P → Type 0} {IsOf : Key → P → Type 0} (keys : Trees) (ids : List ℕ) (outcomes : List Outcome) (numbers : List (Option ℕ)) (key_slots more : KeySlotsValue P)
    (cached : List (ℕ × P)) (out : List (JobOut P)) (kept : IsSound IsDecoded IsOf keys ids outcomes numbers key_slots cached out) (number : ℕ)
    (held : IsHeld key_slots number)
    (emptied : (other : ℕ) → place_at more other ≡ (if number == other then Some None else place_at key_slots other)) where
  -- a picture that is held afterwards was held, and is of another key
  still_held : (other : ℕ) (picture : P) → place_at more other ≡ Some (Some picture)
      → (place_at key_slots other ≡ Some (Some picture)) × (number ≡ other → ⊥)
  still_held other picture is = by_same (number == other) refl (sym (emptied other) ∙ is)
    where
      by_same : (b : Bool) → b ≡ (number == other)
          → (if b then Some None else place_at key_slots other) ≡ Some (Some picture)
          → (place_at key_slots other ≡ Some (Some picture)) × (number ≡ other → ⊥)
      by_same true same place = absurd cc
      by_same false same place = (place, λ one. let yes : (number == other) ≡ true = eq-eqb number other one in cc)

  -- and the other way round
  held_still : (other : ℕ) (picture : P) → place_at key_slots other ≡ Some (Some picture) → (number ≡ other → ⊥)
      → place_at more other ≡ Some (Some picture)
  held_still other picture is apart = emptied other ∙ by_same (number == other) refl
    where
      by_same : (b : Bool) → b ≡ (number == other)
          → (if b then Some None else place_at key_slots other) ≡ Some (Some picture)
      by_same true same = absurd (apart (eqb-true number other (sym same)))
      by_same false same = is

  used_some : (other : ℕ) → IsSome (place_at more other) ↔ IsSome (place_at key_slots other)
  used_some other = subst (λ (place : Option (Option P)). IsSome place ↔ IsSome (place_at key_slots other)) (sym (emptied other)) (by_same (number == other) refl)
    where
      by_same : (b : Bool) → b ≡ (number == other)
          → IsSome (if b then Some None else place_at key_slots other) ↔ IsSome (place_at key_slots other)
      by_same true same = (
        λ some. subst (λ n. IsSome (place_at key_slots n)) (eqb-true number other (sym same)) (subst IsSome (sym held.1) refl),
        λ some. refl,
      )
      by_same false same = (λ some. some, λ some. some)

  -- what is kept then
  pub kept_emptied : IsSound IsDecoded IsOf keys ids outcomes numbers more cached out
  kept_emptied = record {
    right = record {
      one = kept.right.one;
      held = λ other picture is. kept.right.held other picture (still_held other picture is).0;
    };
    same = kept.same;
    stand = kept.stand;
    decodable = kept.decodable;
    used = λ other. (λ some. (kept.used other).0 ((used_some other).0 some), λ is. (used_some other).1 ((kept.used other).1 is));
    stored = kept.stored;
    jobs = kept.jobs;
  }

  -- the keys that are held then are the others
  pub held_emptied : (key other : Key) → tree_at keys number ≡ Some key
      → Contains (keys_for keys (numbers_held more)) other
      ↔ (Contains (keys_for keys (numbers_held key_slots)) other × (other ≡ key → ⊥))
  held_emptied key other tree = (λ is. forth is, λ both. back both.0 both.1)
    where
      forth : Contains (keys_for keys (numbers_held more)) other
          → Contains (keys_for keys (numbers_held key_slots)) other × (other ≡ key → ⊥)
      forth is =
          let source : (n : ℕ) × Contains (numbers_held more) n × (key_for keys n ≡ other) =
          for_contains keys (numbers_held more) other is in
          let there : (picture : P) × (place_at more source.0 ≡ Some (Some picture)) =
          held_found more source.0 source.1 in
          let was = still_held source.0 there.0 there.1 in
          let right : IsRight IsDecoded IsOf keys source.0 there.0 = kept.right.held source.0 there.0 was.0 in
          let live : tree_at keys source.0 ≡ Some other =
          right.1 ∙ ap Some (sym (key_is keys source.0 right.0 right.1) ∙ source.2) in (
            subst (Contains (keys_for keys (numbers_held key_slots))) source.2
                (contains_for keys (numbers_held key_slots) source.0 (found_held key_slots source.0 there.0 was.0)),
            λ same. was.1 (kept.right.one.trees number source.0 other (tree ∙ ap Some (sym same)) live),
          )

      back : Contains (keys_for keys (numbers_held key_slots)) other → (other ≡ key → ⊥)
          → Contains (keys_for keys (numbers_held more)) other
      back is apart =
          let source : (n : ℕ) × Contains (numbers_held key_slots) n × (key_for keys n ≡ other) =
          for_contains keys (numbers_held key_slots) other is in
          let there : (picture : P) × (place_at key_slots source.0 ≡ Some (Some picture)) =
          held_found key_slots source.0 source.1 in
          let still = held_still source.0 there.0 there.1
          (λ one. apart (sym source.2 ∙ ap (key_for keys) (sym one) ∙ key_is keys number key tree)) in
          subst (Contains (keys_for keys (numbers_held more))) source.2
          (contains_for keys (numbers_held more) source.0 (found_held more source.0 there.0 still))
