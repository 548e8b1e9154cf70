-- Lists with an item more, with one fewer, and with another one in its place.
use Rattle.std.proofs.Common.{◌≡◌, ℕ, suc, ◌<◌, ◌≤◌, List, ◌∷◌, ◌++◌, length, take, drop, set, get_or, ap, sym, ◌∙◌, subst, arith}
use Rattle.std.specs.Prelude.{insert, remove}
use Rattle.std.proofs.Math.Seq.{take-append_seam, drop-append_seam}
use Rattle.std.proofs.lemmas.List.{length-take-le, set_split, set-get_or, take-append-drop}
use Rattle.edit_history.proofs.Carried.{take-inserted, drop-inserted}

module _ {X : Type 0} (xs : List X) (at : ℕ) where
  -- in front of an item that is gone, and behind it
  take-removed : at ≤ length xs → take at (remove xs at) ≡ take at xs
  take-removed within =
      subst (λ n. take n (take at xs ++ drop (suc at) xs) ≡ take at xs) (length-take-le at xs within)
      (take-append_seam (take at xs) (drop (suc at) xs))

  drop-removed : at ≤ length xs → drop at (remove xs at) ≡ drop (suc at) xs
  drop-removed within =
      subst (λ n. drop n (take at xs ++ drop (suc at) xs) ≡ drop (suc at) xs) (length-take-le at xs within)
      (drop-append_seam (take at xs) (drop (suc at) xs))

  -- an item in the place of the one that is gone
  pub insert-removed : (x : X) → at < length xs → insert (remove xs at) at x ≡ set xs at x
  insert-removed x within =
      ap (λ (front : List X). front ++ x ∷ drop at (remove xs at)) (take-removed (omega (arith, within)))
      ∙ (ap (λ (rest : List X). take at xs ++ x ∷ rest) (drop-removed (omega (arith, within))) ∙ sym (set_split xs at x within))

  -- the one that is gone itself
  pub insert-removed_same : (d : X) → at < length xs → insert (remove xs at) at (get_or xs at d) ≡ xs
  insert-removed_same d within = insert-removed (get_or xs at d) within ∙ set-get_or xs at d

  -- an item that came, and is gone again
  pub remove-inserted : (x : X) → at ≤ length xs → remove (insert xs at x) at ≡ xs
  remove-inserted x within =
      ap (λ (front : List X). front ++ drop (suc at) (insert xs at x)) (take-inserted xs at x within)
      ∙ (ap (λ (rest : List X). take at xs ++ rest) (drop-inserted xs at x within) ∙ take-append-drop at xs)

  -- another one in its place
  pub set-inserted : (x y : X) → at ≤ length xs → at < length (insert xs at x) → set (insert xs at x) at y ≡ insert xs at y
  set-inserted x y within inside =
      set_split (insert xs at x) at y inside
      ∙ (ap (λ (front : List X). front ++ y ∷ drop (suc at) (insert xs at x)) (take-inserted xs at x within)
      ∙ ap (λ (rest : List X). take at xs ++ y ∷ rest) (drop-inserted xs at x within))

  -- an item that is put where it stands
  pub put-same : (x : X) → at < length xs → x ≡ get_or xs at x → take at xs ++ x ∷ drop (suc at) xs ≡ xs
  put-same x within here =
      sym (set_split xs at x within) ∙ (ap (λ (y : X). set xs at y) here ∙ set-get_or xs at x)
