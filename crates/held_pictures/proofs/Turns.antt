-- One turn of a loop over keys or places.
use Rattle.std.proofs.Common.{◌≡◌, refl, ap, sym, ◌∙◌, subst, ℕ, ◌+◌, ◌<◌, List, [], ◌∷◌, ◌++◌, length, get_or, take, Option, None, Some, inl, inr, ◌⊎◌}
use Rattle.std.specs.Prelude.{Contains}
use Rattle.std.proofs.lemmas.List.{take_more}
use Rattle.std.proofs.lemmas.List.Elements.{Contains-append_left, Contains-push, Contains-push_cases}
use Rattle.held_pictures.specs.Left.{IsLeft}

pub neither : (P Q : Type 0) → (P → ⊥) → (Q → ⊥) → P ⊎ Q → ⊥
neither P Q p q is = elim is [ inl x ↦ p x | inr y ↦ q y ]

module _ {X : Type 0} where
  -- where nothing goes, all is left
  pub none_goes : (Goes : X → Type 0) (xs : List X) → ((x : X) → Goes x → ⊥) → IsLeft Goes xs xs
  none_goes Goes [] stay = refl
  none_goes Goes (x ∷ xs) stay = inr (stay x, (xs, refl, none_goes Goes xs stay))

  -- what goes by another rule that says the same
  pub left_same : (Goes Leaves : X → Type 0) (xs left : List X) → ((x : X) → Goes x → Leaves x)
      → ((x : X) → Leaves x → Goes x) → IsLeft Goes xs left → IsLeft Leaves xs left
  left_same Goes Leaves [] left to from is = is
  left_same Goes Leaves (x ∷ xs) left to from is =
      elim is [
        | inl goes ↦ inl (to x goes.0, left_same Goes Leaves xs left to from goes.1)
        | inr stays ↦
            inr (
              λ leaves. stays.0 (from x leaves),
              (stays.1.0, stays.1.1, left_same Goes Leaves xs stays.1.0 to from stays.1.2),
            )
      ]

  -- what is left of what is left
  pub left_twice : (First Then Goes : X → Type 0) (xs ys zs : List X) → ((x : X) → First x → Goes x)
      → ((x : X) → Then x → Goes x) → ((x : X) → Goes x → First x ⊎ Then x)
      → IsLeft First xs ys → IsLeft Then ys zs → IsLeft Goes xs zs
  left_twice First Then Goes [] ys zs first then' either is more = subst (λ l. IsLeft Then l zs) is more
  left_twice First Then Goes (x ∷ xs) ys zs first then' either is more =
      elim is [
        | inl goes ↦ inl (first x goes.0, left_twice First Then Goes xs ys zs first then' either goes.1 more)
        | inr stays ↦
            elim (subst (λ l. IsLeft Then l zs) stays.1.1 more) [
              | inl goes ↦
                  inl (
                    then' x goes.0,
                    left_twice First Then Goes xs stays.1.0 zs first then' either stays.1.2 goes.1,
                  )
              | inr rests ↦
                  inr (
                    λ goes. neither (First x) (Then x) stays.0 rests.0 (either x goes),
                    (
                      rests.1.0,
                      rests.1.1,
                      left_twice First Then Goes xs stays.1.0 rests.1.0 first then' either stays.1.2 rests.1.2,
                    ),
                  )
            ]
      ]

-- an entry is named among one entry more where it was or it is that one
pub named_more : (keys : List (Option ℕ)) (i : ℕ) (key : Option ℕ) (number : ℕ) → i < length keys → key ≡ get_or keys i key
    → Contains (take (i + 1) keys) (Some number) → Contains (take i keys) (Some number) ⊎ (key ≡ Some number)
named_more keys i key number within is among =
    elim (Contains-push_cases (take i keys) (get_or keys i key) (Some number)
    (subst (λ l. Contains l (Some number)) (take_more keys i key within) among)) [
      | inl before ↦ inl before
      | inr same ↦ inr (is ∙ same)
    ]

pub named_before : (keys : List (Option ℕ)) (i : ℕ) (key : Option ℕ) (number : ℕ) → i < length keys
    → Contains (take i keys) (Some number) → Contains (take (i + 1) keys) (Some number)
named_before keys i key number within among =
    subst (λ l. Contains l (Some number)) (sym (take_more keys i key within))
    (Contains-append_left (take i keys) (get_or keys i key ∷ []) (Some number) among)

pub named_here : (keys : List (Option ℕ)) (i : ℕ) (key : Option ℕ) (number : ℕ) → i < length keys → key ≡ get_or keys i key
    → key ≡ Some number → Contains (take (i + 1) keys) (Some number)
named_here keys i key number within is same =
    subst (λ l. Contains l (Some number)) (sym (take_more keys i key within))
    (subst (λ k. Contains (take i keys ++ get_or keys i key ∷ []) k) (sym is ∙ same)
    (Contains-push (take i keys) (get_or keys i key)))

-- one key more is taken
pub left_more : (keys : List (Option ℕ)) (i : ℕ) (key : Option ℕ) (xs ys zs : List ℕ) → i < length keys
    → key ≡ get_or keys i key → IsLeft (λ n. Contains (take i keys) (Some n)) xs ys
    → IsLeft (λ n. key ≡ Some n) ys zs → IsLeft (λ n. Contains (take (i + 1) keys) (Some n)) xs zs
left_more keys i key xs ys zs within is before now =
    left_twice (λ n. Contains (take i keys) (Some n)) (λ n. key ≡ Some n)
    (λ n. Contains (take (i + 1) keys) (Some n)) xs ys zs (λ n. named_before keys i key n within)
    (λ n. named_here keys i key n within is) (λ n. named_more keys i key n within is) before now

-- what goes is the key that is named
pub left_named : (key : Option ℕ) (n : ℕ) (xs left : List ℕ) → key ≡ Some n → IsLeft (λ m. m ≡ n) xs left
    → IsLeft (λ m. key ≡ Some m) xs left
left_named key n xs left is goes =
    left_same (λ m. m ≡ n) (λ m. key ≡ Some m) xs left (λ m same. is ∙ ap Some (sym same)) (λ m named. cc) goes

some_none : (m : ℕ) → Some m ≡ None → ⊥
some_none m same = cc

-- nothing goes where no key is named
pub none_named : (key : Option ℕ) (xs : List ℕ) → key ≡ None → IsLeft (λ m. key ≡ Some m) xs xs
none_named key xs is = none_goes (λ m. key ≡ Some m) xs (λ m named. some_none m (sym named ∙ is))
