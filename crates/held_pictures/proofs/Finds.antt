-- What is found after a put and after a take.
use Rattle.std.proofs.Common.{◌≡◌, ℕ, zero, suc, ◌<◌, ◌≤◌, Bool, false, List, ◌∷◌, take, length, Some, None, refl, ◌∙◌, arith}
use Rattle.std.specs.Cmp.{IsEquivalence}
use Rattle.std.specs.Map.{lookup, remove_entry}
use Rattle.std.proofs.lemmas.List.{take_all}
use Rattle.std.proofs.lemmas.Map.{lookup-remove_entry}
use Rattle.held_pictures.specs.Bounded.{Bounded, IsBounded, with_first, without}
use Rattle.held_pictures.proofs.Keys.{length-remove_entry_le}

module _ {K P : Type 0} (eq : K → K → Bool) (laws : IsEquivalence eq) where
  at_front : (key : K) (picture : P) (n : ℕ) (es : List (K × P)) → 1 ≤ n → lookup (eq key) (take n ((key, picture) ∷ es)) ≡ Some picture
  at_front key picture zero es least = absurd (omega arith)
  at_front key picture (suc n) es least = rw (laws.refl key) refl

  pub found_after_put : (cache : Bounded K P) (key : K) (picture : P) → IsBounded eq cache → lookup (eq key) (with_first eq cache key picture).pairs ≡ Some picture
  found_after_put cache key picture is = at_front key picture cache.capacity (remove_entry (eq key) cache.pairs) is.least

  pub out_after_take : (cache : Bounded K P) (key : K) → IsBounded eq cache → lookup (eq key) (without eq cache key).pairs ≡ None
  out_after_take cache key is = let gone = lookup-remove_entry laws (eq key) (λ x y h. laws.congr key x y h) key cache.pairs is.once in rw (laws.refl key) at gone

  pub others_after_take : (cache : Bounded K P) (key other : K) → IsBounded eq cache → eq key other ≡ false → lookup (eq other) (without eq cache key).pairs ≡ lookup (eq other) cache.pairs
  others_after_take cache key other is apart = let rest = lookup-remove_entry laws (eq key) (λ x y h. laws.congr key x y h) other cache.pairs is.once in rw apart at rest

  pub others_after_put : (cache : Bounded K P) (key other : K) (picture : P) → IsBounded eq cache → length cache.pairs < cache.capacity → eq key other ≡ false → lookup (eq other) (with_first eq cache key picture).pairs ≡ lookup (eq other) cache.pairs
  others_after_put cache key other picture is capacity apart =
      let fits : length ((key, picture) ∷ remove_entry (eq key) cache.pairs) ≤ cache.capacity = omega (arith, length-remove_entry_le (eq key) cache.pairs) in
      let all = take_all cache.capacity ((key, picture) ∷ remove_entry (eq key) cache.pairs) fits in
      let turned : eq other key ≡ false = laws.symm other key ∙ apart in
      rw (all, turned) (others_after_take cache key other is apart)
