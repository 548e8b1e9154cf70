-- The dependents that wait for one key, among those that stand by rising keys.
use Rattle.std.proofs.Common.{◌≡◌, sym, ap, ◌∙◌, ℕ, ◌+◌, ◌-◌, ◌<◌, ◌≤◌, ltb, leb, List, length, take, drop, get_or, Contains, true, false, inl, inr, arith}
use Rattle.std.proofs.lemmas.Bool.{ltb-true, ltb-false, leb-true, leb-false, cases_lt}
use Rattle.std.proofs.lemmas.List.{get_or-drop, get_or-take, length-drop, length-take-le}
use Rattle.std.specs.List.Sorted.{IsPartitionPoint}
use Rattle.picture_store.specs.declared.schedule.Dependent.{Dependent}

-- those before the first place wait for keys below this one, and those before the second for none
-- above it
module _ (xs : List Dependent) (key from to : ℕ) (from_in : from ≤ length xs) (to_in : to ≤ length xs)
    (first : IsPartitionPoint (λ (d : Dependent). ltb d.entry key ≡ true) (λ (d : Dependent). ltb d.entry key ≡ false) xs from)
    (second : IsPartitionPoint (λ (d : Dependent). leb d.entry key ≡ true) (λ (d : Dependent). leb d.entry key ≡ false) xs to) where
  below : (k : ℕ) (d : Dependent) → k < from → (get_or xs k d).entry < key
  below k d less = ltb-true _ _ (first.0 k d (omega arith) less)

  above : (k : ℕ) (d : Dependent) → from ≤ k → k < length xs → key ≤ (get_or xs k d).entry
  above k d least within = ltb-false _ _ (first.1 k d least within)

  up_to : (k : ℕ) (d : Dependent) → k < to → (get_or xs k d).entry ≤ key
  up_to k d less = leb-true _ _ (second.0 k d (omega arith) less)

  past : (k : ℕ) (d : Dependent) → to ≤ k → k < length xs → key < (get_or xs k d).entry
  past k d least within = leb-false _ _ (second.1 k d least within)

  pub ordered : from ≤ to
  ordered = elim (cases_lt to from) [
    | inl less ↦
        let one : Dependent = record { entry = 0; at = 0 } in
        absurd (omega (arith, below to one less, past to one (omega arith) (omega (arith, less, from_in))))
    | inr least ↦ least
  ]

  long : length (take (to - from) (drop from xs)) ≡ to - from
  long = length-take-le (to - from) (drop from xs) (omega (arith, length-drop from xs, to_in))

  item_at : (k : ℕ) (d : Dependent) → k < to - from → get_or (take (to - from) (drop from xs)) k d ≡ get_or xs (from + k) d
  item_at k d less = get_or-take (to - from) (drop from xs) k d less ∙ get_or-drop from xs k d

  -- those between the places wait for the key
  pub are_between : (d : Dependent) → Contains (take (to - from) (drop from xs)) d → Contains xs d × (d.entry ≡ key)
  are_between d (k, within, is) =
      let less : k < to - from = omega (arith, within, long) in
      let there : get_or xs (from + k) d ≡ d = sym (item_at k d less) ∙ is in
      let entry = ap (λ (e : Dependent). e.entry) there in
      let inside : from + k < length xs = omega (arith, less, to_in) in (
        (from + k, inside, there),
        omega (arith, entry, above (from + k) d (omega arith) inside, up_to (from + k) d (omega (arith, less))),
      )

  -- and no others do
  pub all_between : (d : Dependent) → Contains xs d × (d.entry ≡ key) → Contains (take (to - from) (drop from xs)) d
  all_between d ((k, within, is), same) =
      let entry = ap (λ (e : Dependent). e.entry) is in
      let least : from ≤ k = elim (cases_lt k from) [
        | inl less ↦ absurd (omega (arith, below k d less, entry, same))
        | inr least ↦ least
      ] in
      let less : k < to = elim (cases_lt k to) [
        | inl less ↦ less
        | inr past_it ↦ absurd (omega (arith, past k d past_it within, entry, same))
      ] in
      let inside : k - from < to - from = omega (arith, least, less) in
      let one : from + (k - from) ≡ k = omega (arith, least) in (
        k - from,
        omega (arith, inside, long),
        item_at (k - from) d inside ∙ (ap (λ i. get_or xs i d) one ∙ is),
      )
