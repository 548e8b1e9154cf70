-- Flags that change one by one.
use Rattle.std.proofs.Common.{◌≡◌, refl, ap, sym, ◌∙◌, subst, ℕ, IsTrue, Contains, ◌↔◌, inl, inr, zero, suc, ◌<◌, Bool, true, false, ◌==◌, List, [], ◌∷◌, ◌++◌, ◌+◌, length, take, get_or, Option, None, Some, if◌then◌else◌}
use Rattle.std.specs.Prelude.{slice_set}
use Rattle.std.specs.List.{filter_map}
use Rattle.std.proofs.lemmas.Bool.{eqb-true, eq-eqb}
use Rattle.std.proofs.lemmas.List.Elements.{filter_map-append, Contains-append_left, Contains-push, Contains-push_cases}
use Rattle.std.proofs.lemmas.List.{append-nil, get_or-set_same, get_or-set_other, take_more}
use Rattle.picture_store.specs.Marks.{AreFlagged, is_flagged}

-- with room for one more
pub flagged_more : (flags : List Bool) (number : ℕ) → is_flagged (flags ++ false ∷ []) number ≡ is_flagged flags number
flagged_more [] zero = refl
flagged_more [] (suc number) = refl
flagged_more (flag ∷ flags) zero = refl
flagged_more (flag ∷ flags) (suc number) = flagged_more flags number

not_same : (a b : ℕ) → false ≡ (a == b) → a ≡ b → ⊥
not_same a b differ same =
    let yes : (a == b) ≡ true = eq-eqb a b same in
    cc

-- with one set
pub flagged_set : (flags : List Bool) (at : ℕ) → at < length flags → (number : ℕ)
    → is_flagged (slice_set flags at true) number ≡ (if at == number then true else is_flagged flags number)
flagged_set flags at within number = by (at == number) refl
  where
    by : (b : Bool) → b ≡ (at == number)
        → is_flagged (slice_set flags at true) number ≡ (if b then true else is_flagged flags number)
    by true is =
        ap (is_flagged (slice_set flags at true)) (sym (eqb-true at number (sym is)))
        ∙ get_or-set_same flags at true false within
    by false is = get_or-set_other flags at number true false (λ same. not_same at number is (sym same))

-- with that of a number more
pub flags_added : (numbers : List ℕ) (flags : List Bool) (added : ℕ) (more : List ℕ) (after : List Bool) → AreFlagged numbers flags
    → more ≡ numbers ++ added ∷ []
    → ((other : ℕ) → is_flagged after other ≡ (if added == other then true else is_flagged flags other)) → AreFlagged more after
flags_added numbers flags added more after are more_is set number = by (added == number) refl
  where
    by : (b : Bool) → b ≡ (added == number) → IsTrue (is_flagged after number) ↔ Contains more number
    by true is =
        let same : added ≡ number = eqb-true added number (sym is) in (
          λ yes. subst (λ xs. Contains xs number) (sym more_is) (subst (Contains (numbers ++ added ∷ [])) same (Contains-push numbers added)),
          λ among. subst IsTrue (sym (set number ∙ ap (λ (b : Bool). if b then true else is_flagged flags number) (sym is))) refl,
        )
    by false is =
        let stays : is_flagged after number ≡ is_flagged flags number =
        set number ∙ ap (λ (b : Bool). if b then true else is_flagged flags number) (sym is) in (
          λ yes. subst (λ xs. Contains xs number) (sym more_is)
              (Contains-append_left numbers (added ∷ []) number ((are number).0 (subst IsTrue stays yes))),
          λ among. elim (Contains-push_cases numbers added number (subst (λ xs. Contains xs number) more_is among)) [
            | inl before ↦ subst IsTrue (sym stays) ((are number).1 before)
            | inr same ↦ absurd (not_same added number is same)
          ],
        )

module _ (numbers : List (Option ℕ)) (at : ℕ) (mark : List ℕ) (item : Option ℕ) (within : at < length numbers) (is : item ≡ get_or numbers at item)
    (marked : mark ≡ filter_map (λ number. number) (take at numbers)) where
  -- the keys of units with what the next one has
  listed_with : filter_map (λ number. number) (take (at + 1) numbers) ≡ mark ++ filter_map (λ number. number) (item ∷ [])
  listed_with =
      ap (filter_map (λ number. number)) (take_more numbers at item within)
      ∙ (filter_map-append (λ number. number) (take at numbers) (get_or numbers at item ∷ [])
      ∙ (ap (λ (one : Option ℕ). filter_map (λ number. number) (take at numbers) ++ filter_map (λ number. number) (one ∷ [])) (sym is)
      ∙ ap (λ (before : List ℕ). before ++ filter_map (λ number. number) (item ∷ [])) (sym marked)))

  -- with a key more
  pub listed_more : (key : ℕ) → item ≡ Some key → mark ++ key ∷ [] ≡ filter_map (λ number. number) (take (at + 1) numbers)
  listed_more key some =
      sym (listed_with ∙ ap (λ (one : Option ℕ). mark ++ filter_map (λ number. number) (one ∷ [])) some)

  -- where the next one has none
  pub listed_none : item ≡ None → mark ≡ filter_map (λ number. number) (take (at + 1) numbers)
  listed_none none =
      sym (listed_with ∙ (ap (λ (one : Option ℕ). mark ++ filter_map (λ number. number) (one ∷ [])) none ∙ append-nil mark))
