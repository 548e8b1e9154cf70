-- Lists with one more element, or with one less.
use Rattle.std.proofs.Common.{◌≡◌, ◌⊎◌, ℕ, zero, suc, ◌+◌, ◌<◌, ◌≤◌, List, [], ◌∷◌, ◌++◌, length, get_or, Some, refl, sym, ◌∙◌, ap, inl, inr, arith}
use Rattle.std.specs.Prelude.{slice_get, remove, Contains}
use Rattle.std.proofs.lemmas.Option.{slice_get_within, slice_get_read, get_or_from_slice_get}
use Rattle.std.proofs.lemmas.List.Edits.{length-remove, get_or-remove_below, get_or-remove_above}

some_same : {X : Type 0} (a b : X) → Some a ≡ Some b → a ≡ b
some_same a b same = cc

-- an element of a list with one more: it stands there before, or is the one more
pub get_push : {X : Type 0} (xs : List X) (y x : X) (at : ℕ) → slice_get (xs ++ y ∷ []) at ≡ Some x
    → (slice_get xs at ≡ Some x) ⊎ ((at ≡ length xs) × (x ≡ y))
get_push [] y x zero is = inr (refl, sym (some_same y x is))
get_push [] y x (suc at) is = absurd cc
get_push (z ∷ zs) y x zero is = inl is
get_push (z ∷ zs) y x (suc at) is =
    elim (get_push zs y x at is) [ inl there ↦ inl there | inr last ↦ inr (ap suc last.0, last.1) ]

-- where an element of a list with one less stood before
pub record StoodAt {X : Type 0} (xs : List X) (gone at : ℕ) (x : X) : Type 0 where
  pub from : ℕ
  pub stood : slice_get xs from ≡ Some x
  pub below : at < gone → from ≡ at
  pub above : gone ≤ at → from ≡ at + 1

pub get_remove_below : {X : Type 0} (xs : List X) (gone at : ℕ) (x : X) → gone < length xs → at < gone
    → slice_get (remove xs gone) at ≡ Some x → StoodAt xs gone at x
get_remove_below xs gone at x within low is =
    let read : get_or xs at x ≡ x =
    sym (get_or-remove_below xs gone x at low within) ∙ get_or_from_slice_get (remove xs gone) at x x is in
    record {
      from = at;
      stood = slice_get_read xs (length xs) at x refl (omega arith) (sym read);
      below = λ _. refl;
      above = λ high. absurd (omega arith);
    }

pub get_remove_above : {X : Type 0} (xs : List X) (gone at : ℕ) (x : X) → gone < length xs → gone ≤ at
    → slice_get (remove xs gone) at ≡ Some x → StoodAt xs gone at x
get_remove_above xs gone at x within high is =
    let read : get_or xs (at + 1) x ≡ x =
    sym (get_or-remove_above xs gone x at high within) ∙ get_or_from_slice_get (remove xs gone) at x x is in
    let inside : at < length (remove xs gone) = slice_get_within (remove xs gone) at x is in
    let longer : length (remove xs gone) + 1 ≡ length xs = length-remove xs gone within in
    record {
      from = at + 1;
      stood = slice_get_read xs (length xs) (at + 1) x refl (omega arith) (sym read);
      below = λ low. absurd (omega arith);
      above = λ _. refl;
    }

-- what stands in a list is among its elements
pub among : {X : Type 0} (xs : List X) (at : ℕ) (x : X) → slice_get xs at ≡ Some x → Contains xs x
among xs at x is = (at, slice_get_within xs at x is, get_or_from_slice_get xs at x x is)
