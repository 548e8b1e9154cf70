-- What `lru` says of a put is the bounded list with the new pair first.
use Rattle.std.proofs.Common.{◌≡◌, ℕ, zero, suc, ◌+◌, ◌-◌, ◌≤◌, Bool, true, false, List, [], ◌∷◌, take, length, Option, Some, None, refl, ap, sym, ◌∙◌, subst, arith}
use Rattle.std.specs.Option.{option_map_or}
use Rattle.std.specs.Map.{keys_of, remove_entry, lookup_entry}
use Rattle.std.proofs.lemmas.List.{take_all, length-take}
use Rattle.std.proofs.lemmas.Map.Keys.{IsDistinct-cons}
use Rattle.lru.specs.LruCache.{put_entries}
use Rattle.held_pictures.specs.Bounded.{Bounded, IsStructural, IsBounded, with_first, without}
use Rattle.held_pictures.proofs.Keys.{IsDistinct-keys_take, IsDistinct-keys_remove_entry, apart_from_removed, length-remove_entry_le}

module _ {K P : Type 0} where
  -- where no key passes, no entry goes
  remove_entry-none : (test : K → Bool) (es : List (K × P)) → lookup_entry test es ≡ None → remove_entry test es ≡ es
  remove_entry-none test [] none = refl
  remove_entry-none test (e ∷ es) none = (elim (test e.0) as (λ y. test e.0 ≡ y → remove_entry test (e ∷ es) ≡ e ∷ es) [
    | true ↦ λ t. let none' = rw t at none in cc
    | false ↦ λ t. let none' = rw t at none in rw t (ap (λ rest. e ∷ rest) (remove_entry-none test es none'))
  ]) refl

  -- the entry that is found passes, and one goes
  found_entry : (test : K → Bool) (es : List (K × P)) (f : K × P) → lookup_entry test es ≡ Some f → (test f.0 ≡ true) × (length (remove_entry test es) + 1 ≡ length es)
  found_entry test [] f found = cc
  found_entry test (e ∷ es) f found = (elim (test e.0) as (λ y. test e.0 ≡ y → (test f.0 ≡ true) × (length (remove_entry test (e ∷ es)) + 1 ≡ length (e ∷ es))) [
    | true ↦ λ t. let found' = rw t at found in let same : e ≡ f = cc in (subst (λ g. test g.0 ≡ true) same t, rw t (omega arith))
    | false ↦ λ t. let rest = found_entry test es f (rw t at found) in (rest.0, rw t (omega (arith, rest.1)))
  ]) refl

  module _ (eq : K → K → Bool) (one : IsStructural eq) (k : K) (p : P) where
    of_found : (es : List (K × P)) (cap : ℕ) (o : Option (K × P)) → lookup_entry (eq k) es ≡ o → length es ≤ cap → 1 ≤ cap
        → option_map_or (λ e. (e.0, p) ∷ remove_entry (eq k) es) o ((k, p) ∷ take (cap - 1) es) ≡ take cap ((k, p) ∷ remove_entry (eq k) es)
    of_found es zero None none within least = absurd (omega arith)
    of_found es (suc cap) None none within least = let less : suc cap - 1 ≡ cap = omega arith in rw (remove_entry-none (eq k) es none, less) refl
    of_found es cap (Some f) found within least =
        let there = found_entry (eq k) es f found in
        let same : k ≡ f.0 = one k f.0 there.0 in
        let fits : length ((k, p) ∷ remove_entry (eq k) es) ≤ cap = omega (arith, there.1) in
        ap (λ j. (j, p) ∷ remove_entry (eq k) es) (sym same) ∙ sym (take_all cap ((k, p) ∷ remove_entry (eq k) es) fits)

    pub put_entries-is : (es : List (K × P)) (cap : ℕ) → length es ≤ cap → 1 ≤ cap → put_entries eq (record { entries = es; cap = cap }) k p ≡ take cap ((k, p) ∷ remove_entry (eq k) es)
    put_entries-is es cap within least = of_found es cap (lookup_entry (eq k) es) refl within least

    pub IsBounded-with_first : (cache : Bounded K P) → IsBounded eq cache → IsBounded eq (with_first eq cache k p)
    IsBounded-with_first cache is = record {
      once = IsDistinct-keys_take eq cache.capacity ((k, p) ∷ remove_entry (eq k) cache.pairs) (IsDistinct-cons eq k (keys_of (remove_entry (eq k) cache.pairs)) (apart_from_removed eq one k cache.pairs is.once) (IsDistinct-keys_remove_entry eq (eq k) cache.pairs is.once));
      within = omega (arith, length-take cache.capacity ((k, p) ∷ remove_entry (eq k) cache.pairs));
      least = is.least;
      most = is.most;
    }

  pub IsBounded-without : (eq : K → K → Bool) (k : K) (cache : Bounded K P) → IsBounded eq cache → IsBounded eq (without eq cache k)
  IsBounded-without eq k cache is = record {
    once = IsDistinct-keys_remove_entry eq (eq k) cache.pairs is.once;
    within = omega (arith, length-remove_entry_le (eq k) cache.pairs, is.within);
    least = is.least;
    most = is.most;
  }
