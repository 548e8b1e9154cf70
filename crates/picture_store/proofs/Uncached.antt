-- What a store becomes where the picture that was cached first goes back.
use Rattle.std.proofs.Common.{◌≡◌, refl, sym, ap, subst, ◌∙◌, ℕ, List, [], ◌∷◌, ◌++◌, Option, None, Some, Contains, MatchOption}
use Rattle.std.specs.Map.{keys_of as numbers_of, values_of}
use Rattle.std.proofs.lemmas.List.{map-append}
use Rattle.std.proofs.lemmas.List.Elements.{All-contains, Contains-append_left, Contains-append_right}
use Rattle.unit_outcomes.specs.declared.outcome.Outcome.{Outcome}
use Rattle.decode_jobs.specs.Inputs.{InputValue}
use Rattle.decode_jobs.specs.Keys.{Key}
use Rattle.held_pictures.proofs.Members.{here, All-from_contains}
use Rattle.held_pictures.specs.Bounded.{Bounded}
use Rattle.picture_store.specs.declared.job_out.JobOut.{JobOut}
use Rattle.picture_store.specs.KeySlots.{KeySlotsValue}
use Rattle.picture_store.specs.Stored.{Trees, key_for, keys_for, IsRight, IsSound}
use Rattle.picture_store.specs.Released.{AnswersUncache}
use Rattle.picture_store.proofs.Stays.{key_is}
use Rattle.picture_store.proofs.Viewed.{Marked, viewed}

module _ {P : Type 0} {IsDecoded : InputValue P → P → Type 0} {IsOf : Key → P → Type 0} (keys : Trees) (ids : List ℕ)
    (outcomes : List Outcome) (numbers : List (Option ℕ)) (key_slots : KeySlotsValue P) (cached : List (ℕ × P)) (out : List (JobOut P))
    (kept : IsSound IsDecoded IsOf keys ids outcomes numbers key_slots cached out) (left : List (ℕ × P)) (pair : ℕ × P)
    (is : cached ≡ left ++ pair ∷ []) where
  -- the others were cached
  pub left_cached : (other : ℕ × P) → Contains left other → Contains cached other
  left_cached other among = subst (λ pairs. Contains pairs other) (sym is) (Contains-append_left left (pair ∷ []) other among)

  -- and so were their keys
  pub left_numbered : (number : ℕ) → Contains (numbers_of left) number → Contains (numbers_of cached) number
  left_numbered number among =
      subst (λ pairs. Contains (numbers_of pairs) number) (sym is)
      (subst (λ found. Contains found number) (sym (map-append (λ (p : ℕ × P). p.0) left (pair ∷ [])))
      (Contains-append_left (numbers_of left) (numbers_of (pair ∷ [])) number among))

  -- what is kept then
  pub kept_uncached : IsSound IsDecoded IsOf keys ids outcomes numbers key_slots left out
  kept_uncached = record {
    right = kept.right;
    same = kept.same;
    stand = kept.stand;
    decodable = kept.decodable;
    used = kept.used;
    stored =
        All-from_contains {P = λ (other : ℕ × P). IsRight IsDecoded IsOf keys other.0 other.1} left
        (λ other among. All-contains (λ (other : ℕ × P). IsRight IsDecoded IsOf keys other.0 other.1) cached other kept.stored
        (left_cached other among));
    jobs = kept.jobs;
  }

  right : IsRight IsDecoded IsOf keys pair.0 pair.1
  right =
      All-contains (λ (other : ℕ × P). IsRight IsDecoded IsOf keys other.0 other.1) cached pair kept.stored
      (subst (λ pairs. Contains pairs pair) (sym is) (Contains-append_right left (pair ∷ []) pair (here pair [])))

  -- its picture goes back
  pub uncached : (capacity : ℕ) (given : ℕ) (released : List P) (marked : Marked)
      → AnswersUncache IsOf (viewed keys ids outcomes numbers key_slots cached capacity out given released marked) (Some pair.1)
      (viewed keys ids outcomes numbers key_slots left capacity out given released marked)
  uncached capacity given released marked = (
    key_for keys pair.0,
    ap (λ pairs. keys_for keys (numbers_of pairs)) is ∙ keys_split,
    subst (λ (key : Key). IsOf key pair.1) (sym (key_is keys pair.0 right.0 right.1)) right.2,
    ap (λ (pairs : List (ℕ × P)). values_of pairs) is ∙ map-append (λ (p : ℕ × P). p.1) left (pair ∷ []),
    refl,
  )
    where
      keys_split : keys_for keys (numbers_of (left ++ pair ∷ [])) ≡ keys_for keys (numbers_of left) ++ key_for keys pair.0 ∷ []
      keys_split =
          ap (keys_for keys) (map-append (λ (p : ℕ × P). p.0) left (pair ∷ []))
          ∙ map-append (key_for keys) (numbers_of left) (pair.0 ∷ [])

-- the same where a cache gives back its oldest picture, if it has one
module _ {P : Type 0} {IsDecoded : InputValue P → P → Type 0} {IsOf : Key → P → Type 0} (keys : Trees) (ids : List ℕ)
    (outcomes : List Outcome) (numbers : List (Option ℕ)) (key_slots : KeySlotsValue P) (cache left : Bounded ℕ P) (out : List (JobOut P))
    (kept : IsSound IsDecoded IsOf keys ids outcomes numbers key_slots cache.pairs out) where
  -- what the cache gives back
  abbrev pub GivesOldest : Option P → Type 0
  GivesOldest result =
      MatchOption result ((cache.pairs ≡ []) × (left ≡ cache))
      (λ picture. (key : ℕ) × (cache.pairs ≡ left.pairs ++ (key, picture) ∷ []) × (left.capacity ≡ cache.capacity))

  pub kept_left : (result : Option P) → GivesOldest result → IsSound IsDecoded IsOf keys ids outcomes numbers key_slots left.pairs out
  kept_left None (none, same) =
      subst (λ (c : Bounded ℕ P). IsSound IsDecoded IsOf keys ids outcomes numbers key_slots c.pairs out) (sym same) kept
  kept_left (Some picture) (key, is, capacity) =
      kept_uncached keys ids outcomes numbers key_slots cache.pairs out kept left.pairs (key, picture) is

  pub numbered_left : (result : Option P) → GivesOldest result → (number : ℕ) → Contains (numbers_of left.pairs) number
      → Contains (numbers_of cache.pairs) number
  numbered_left None (none, same) number among =
      subst (λ (c : Bounded ℕ P). Contains (numbers_of c.pairs) number) same among
  numbered_left (Some picture) (key, is, capacity) number among =
      left_numbered keys ids outcomes numbers key_slots cache.pairs out kept left.pairs (key, picture) is number among

  pub uncaches : (result : Option P) → GivesOldest result → (given : ℕ) (released : List P) (marked : Marked)
      → AnswersUncache IsOf (viewed keys ids outcomes numbers key_slots cache.pairs cache.capacity out given released marked) result
      (viewed keys ids outcomes numbers key_slots left.pairs left.capacity out given released marked)
  uncaches None (none, same) given released marked = (
    ap (λ (pairs : List (ℕ × P)). keys_for keys (numbers_of pairs)) none,
    ap (λ (c : Bounded ℕ P). viewed keys ids outcomes numbers key_slots c.pairs c.capacity out given released marked) same,
  )
  uncaches (Some picture) (key, is, capacity) given released marked =
      subst (λ n. AnswersUncache IsOf (viewed keys ids outcomes numbers key_slots cache.pairs cache.capacity out given released marked) (Some picture)
      (viewed keys ids outcomes numbers key_slots left.pairs n out given released marked)) (sym capacity)
      (uncached keys ids outcomes numbers key_slots cache.pairs out kept left.pairs (key, picture) is cache.capacity given released marked)
