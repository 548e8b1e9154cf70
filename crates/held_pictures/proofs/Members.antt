-- What is contained in a list, item by item.
use Rattle.std.proofs.Common.{◌≡◌, refl, ap, ℕ, zero, suc, List, [], ◌∷◌, length, map, take, arith, inl, inr, ◌⊎◌, subst}
use Rattle.std.specs.Prelude.{All, Contains, slice_index_or, ◌<◌}
use Rattle.std.proofs.lemmas.List.Elements.{Contains-get_or}
use Rattle.held_pictures.specs.Left.{IsLeft}

module _ {X : Type 0} where
  pub here : (x : X) (xs : List X) → Contains (x ∷ xs) x
  here x xs = (0, omega arith, refl)

  pub there : (x y : X) (xs : List X) → Contains xs y → Contains (x ∷ xs) y
  there x y xs is = (suc is.0, omega (arith, is.1), is.2)

  pub nowhere : (x : X) → Contains [] x → ⊥
  nowhere x is = absurd (omega (arith, is.1))

  first_or_later : (x y : X) (xs : List X) (k : ℕ) → (k < length (x ∷ xs)) → (slice_index_or (x ∷ xs) k y ≡ y)
      → (x ≡ y) ⊎ Contains xs y
  first_or_later x y xs zero within is = inl is
  first_or_later x y xs (suc k) within is = inr (k, omega (arith, within), is)

  pub first_or_among : (x y : X) (xs : List X) → Contains (x ∷ xs) y → (x ≡ y) ⊎ Contains xs y
  first_or_among x y xs is = first_or_later x y xs is.0 is.1 is.2

module _ {X Y : Type 0} (f : X → Y) where
  pub among_map : (xs : List X) (x : X) → Contains xs x → Contains (map f xs) (f x)
  among_map [] x is = absurd (nowhere x is)
  among_map (first ∷ xs) x is =
      elim (first_or_among first x xs is) [
        | inl same ↦ subst (λ y. Contains (f first ∷ map f xs) y) (ap f same) (here (f first) (map f xs))
        | inr later ↦ there (f first) (f x) (map f xs) (among_map xs x later)
      ]

  pub among_source : (xs : List X) (y : Y) → Contains (map f xs) y → (x : X) × Contains xs x × (f x ≡ y)
  among_source [] y is = absurd (nowhere y is)
  among_source (first ∷ xs) y is =
      elim (first_or_among (f first) y (map f xs) is) [
        | inl same ↦ (first, here first xs, same)
        | inr later ↦
            let found : (x : X) × Contains xs x × (f x ≡ y) = among_source xs y later in
            (found.0, there first found.0 xs found.1, found.2)
      ]

  -- what is made of the items of a list is the same where it is the same of each
  pub map_same : (g : X → Y) (xs : List X) → ((x : X) → Contains xs x → g x ≡ f x) → map g xs ≡ map f xs
  map_same g [] same = refl
  map_same g (x ∷ xs) same = rw (same x (here x xs), map_same g xs (λ y is. same y (there x y xs is))) refl

-- what holds of whatever is contained holds of each item
pub All-from_contains : {X : Type 0} {P : X → Type 0} (xs : List X) → ((x : X) → Contains xs x → P x) → All P xs
All-from_contains {X} {P} xs each k d within = each (slice_index_or xs k d) (Contains-get_or xs k d within)

-- what is left of a list was in it
pub left_among : {X : Type 0} (Goes : X → Type 0) (xs left : List X) → IsLeft Goes xs left
    → (x : X) → Contains left x → Contains xs x
left_among Goes [] left is x among = absurd (nowhere x (subst (λ l. Contains l x) is among))
left_among {X} Goes (first ∷ xs) left is x among =
    elim is [
      | inl goes ↦ there first x xs (left_among Goes xs left goes.1 x among)
      | inr stays ↦
          elim (first_or_among first x stays.1.0 (subst (λ l. Contains l x) stays.1.1 among)) [
            | inl same ↦ subst (λ y. Contains (first ∷ xs) y) same (here first xs)
            | inr later ↦ there first x xs (left_among Goes xs stays.1.0 stays.1.2 x later)
          ]
    ]

-- what is among the first of a list is in it
pub among_take : {X : Type 0} (n : ℕ) (xs : List X) (x : X) → Contains (take n xs) x → Contains xs x
among_take zero xs x is = absurd (nowhere x is)
among_take (suc n) [] x is = is
among_take (suc n) (first ∷ xs) x is =
    elim (first_or_among first x (take n xs) is) [
      | inl same ↦ subst (λ y. Contains (first ∷ xs) y) same (here first xs)
      | inr later ↦ there first x xs (among_take n xs x later)
    ]
