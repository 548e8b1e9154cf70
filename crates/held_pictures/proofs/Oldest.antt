-- The pair of a cache that was put first: the last one.
use Rattle.std.proofs.Common.{◌≡◌, refl, ap, sym, ℕ, ◌-◌, Bool, List, [], ◌∷◌, ◌++◌, length, take, Some, arith}
use Rattle.std.specs.Prelude.{slice_get, option_map, MatchOption}
use Rattle.lru.specs.LruCache.{last_entry}
use Rattle.std.proofs.lemmas.List.{length-take}
use Rattle.held_pictures.specs.Bounded.{Bounded, IsBounded}
use Rattle.held_pictures.proofs.Keys.{IsDistinct-keys_take}

module _ {K P : Type 0} where
  -- a list that isn't empty is its last pair behind the others
  ends : (x : K × P) (xs : List (K × P))
      → (last : K × P) × (slice_get (x ∷ xs) (length xs) ≡ Some last) × (take (length xs) (x ∷ xs) ++ last ∷ [] ≡ x ∷ xs)
  ends x [] = (x, refl, refl)
  ends x (y ∷ xs) =
      let rest = ends y xs in
      (rest.0, rest.1, ap (λ l. x ∷ l) rest.2)

  abbrev pub bounded : List (K × P) → ℕ → Bounded K P
  bounded pairs capacity = record { pairs = pairs; capacity = capacity }

  -- what is taken is the picture of the last pair, and the others stay
  pub oldest_taken : (es : List (K × P)) (most : ℕ)
      → MatchOption (option_map (λ pair. pair.1) (last_entry es))
      ((es ≡ []) × (bounded (take (length es - 1) es) most ≡ bounded es most))
      (λ picture. (key : K) × (es ≡ take (length es - 1) es ++ (key, picture) ∷ []) × (most ≡ most))
  oldest_taken [] most = (refl, refl)
  oldest_taken (e ∷ es) most =
      let less : length (e ∷ es) - 1 ≡ length es = omega arith in
      let last = ends e es in
      rw (less, last.1) (last.0.0, sym last.2, refl)

  pub bounded_before : (eq : K → K → Bool) (cache : Bounded K P) → IsBounded eq cache
      → IsBounded eq (record cache { pairs = take (length cache.pairs - 1) cache.pairs })
  bounded_before eq cache is = record {
    once = IsDistinct-keys_take eq (length cache.pairs - 1) cache.pairs is.once;
    within = omega (arith, is.within, length-take (length cache.pairs - 1) cache.pairs);
    least = is.least;
    most = is.most;
  }
