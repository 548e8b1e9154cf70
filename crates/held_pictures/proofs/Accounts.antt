-- The pictures of a cache's pairs, before and after a pair is put or taken: those that are there and that which goes out.
use Rattle.std.proofs.Common.{◌≡◌, refl, ap, ℕ, zero, suc, ◌+◌, ◌-◌, ◌≤◌, Bool, true, false, cond, List, [], ◌∷◌, ◌++◌, length, take, Option, None, Some, arith}
use Rattle.std.specs.Prelude.{IsPermutation, option_map, slice_get}
use Rattle.std.specs.Option.{option_map_or, option_to_list}
use Rattle.std.specs.Map.{lookup, remove_entry, values_of}
use Rattle.std.proofs.lemmas.List.{take_all}
use Rattle.std.proofs.lemmas.List.Sorted.{IsPermutation-refl, IsPermutation-sym, IsPermutation-cons, IsPermutation-to_front}
use Rattle.held_pictures.specs.Bounded.{Bounded, with_first, pushed_out}

module _ {K P : Type 0} (test : K → Bool) where
  one_removed : (b : Bool) (e : K × P) (es rest : List (K × P)) (found : Option P)
      → IsPermutation (values_of es) (values_of rest ++ option_to_list found)
      → IsPermutation (values_of (e ∷ es)) (values_of (cond b es (e ∷ rest)) ++ option_to_list (cond b (Some e.1) found))
  one_removed true e es rest found later = IsPermutation-sym _ _ (IsPermutation-to_front (values_of es) e.1)
  one_removed false e es rest found later = IsPermutation-cons e.1 _ _ later

  -- the pictures of a list are those of its other pairs and that of the one that is taken out
  pub removed : (es : List (K × P))
      → IsPermutation (values_of es) (values_of (remove_entry test es) ++ option_to_list (lookup test es))
  removed [] = IsPermutation-refl []
  removed (e ∷ es) = one_removed (test e.0) e es (remove_entry test es) (lookup test es) (removed es)

  unfound : (b : Bool) (e : K × P) (es rest : List (K × P)) (found : Option P)
      → cond b (Some e.1) found ≡ None → (found ≡ None → rest ≡ es) → cond b es (e ∷ rest) ≡ e ∷ es
  unfound true e es rest found none later = absurd cc
  unfound false e es rest found none later = ap (λ xs. e ∷ xs) (later none)

  none_removed : (es : List (K × P)) → lookup test es ≡ None → remove_entry test es ≡ es
  none_removed [] none = refl
  none_removed (e ∷ es) none =
      unfound (test e.0) e es (remove_entry test es) (lookup test es) none (λ none. none_removed es none)

  length_found : (b : Bool) (e : K × P) (es rest : List (K × P)) (found : Option P) (old : P)
      → cond b (Some e.1) found ≡ Some old → (found ≡ Some old → length rest + 1 ≡ length es)
      → length (cond b es (e ∷ rest)) + 1 ≡ length (e ∷ es)
  length_found true e es rest found old is later = omega arith
  length_found false e es rest found old is later = omega (arith, later is)

  length_removed : (es : List (K × P)) (old : P) → lookup test es ≡ Some old → length (remove_entry test es) + 1 ≡ length es
  length_removed [] old is = absurd cc
  length_removed (e ∷ es) old is =
      length_found (test e.0) e es (remove_entry test es) (lookup test es) old is (λ found. length_removed es old found)

module _ {K P : Type 0} where
  -- of one pair too many the last goes out
  cut : (n : ℕ) (es : List (K × P)) → length es ≤ suc n
      → values_of (take n es) ++ option_to_list (option_map (λ pair. pair.1) (slice_get es n)) ≡ values_of es
  cut zero [] fits = refl
  cut (suc n) [] fits = refl
  cut zero (e ∷ []) fits = refl
  cut zero (e ∷ f ∷ es) fits = absurd (omega (arith, fits))
  cut (suc n) (e ∷ es) fits = ap (λ xs. e.1 ∷ xs) (cut n es (omega (arith, fits)))

module _ {K P : Type 0} (eq : K → K → Bool) (key : K) (picture : P) where
  put : (es : List (K × P)) (most : ℕ) (found : Option P) → lookup (eq key) es ≡ found → length es ≤ most → 1 ≤ most
      → IsPermutation (picture ∷ values_of es)
      (values_of (take most ((key, picture) ∷ remove_entry (eq key) es))
      ++ option_to_list (option_map (λ pair. pair.1) (option_map_or (λ old. Some (key, old)) found (slice_get es (most - 1)))))
  put es zero found is fits least = absurd (omega (arith, least))
  put es (suc n) None is fits least =
      let less : suc n - 1 ≡ n = omega arith in
      rw (none_removed (eq key) es is, less, cut n es fits) (IsPermutation-refl (picture ∷ values_of es))
  put es (suc n) (Some old) is fits least =
      let all : length (remove_entry (eq key) es) ≤ n = omega (arith, length_removed (eq key) es old is, fits) in
      let rest : IsPermutation (values_of es) (values_of (remove_entry (eq key) es) ++ option_to_list (lookup (eq key) es)) =
      removed (eq key) es in
      let rest' = rw is at rest in
      rw (take_all n (remove_entry (eq key) es) all)
      (IsPermutation-cons picture (values_of es) (values_of (remove_entry (eq key) es) ++ old ∷ []) rest')

  -- where a pair is put, its picture and those that were there are those that are there and the one that goes out
  pub put_accounts : (cache : Bounded K P) → length cache.pairs ≤ cache.capacity → 1 ≤ cache.capacity
      → IsPermutation (picture ∷ values_of cache.pairs)
      (values_of (with_first eq cache key picture).pairs ++ option_to_list (pushed_out eq cache key))
  put_accounts cache fits least = put cache.pairs cache.capacity (lookup (eq key) cache.pairs) refl fits least
