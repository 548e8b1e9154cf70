-- What stands for the items of a list, one more at a time.
use Rattle.std.proofs.Common.{◌≡◌, ◌∙◌, ℕ, zero, suc, ◌+◌, ◌<◌, List, [], ◌∷◌, ◌++◌, Option, length, take, filter_map, slice_index_or, ap, ap₂, sym, refl, arith}
use Rattle.std.specs.List.{zip}
use Rattle.std.proofs.lemmas.List.Elements.{filter_map-append}
use Rattle.std.proofs.Math.Seq.{take-suc}
use native.Mathlib.Numerals.{unary_clauses}
use Rattle.serve_calls.specs.Lists.{listed}

-- the next item of a list comes after those before it
pub take-next : {X : Type 0} (xs : List X) (at : ℕ) (d : X) → at < length xs
    → take (at + 1) xs ≡ take at xs ++ slice_index_or xs at d ∷ []
take-next xs at d inside = simp unary_clauses (take-suc xs at d inside)

-- what stands for it comes after what stands for those
filter_map-next : {X Y : Type 0} (h : X → Option Y) (xs : List X) (at : ℕ) (d : X) → at < length xs
    → filter_map h (take (at + 1) xs) ≡ filter_map h (take at xs) ++ listed (h (slice_index_or xs at d))
filter_map-next h xs at d inside =
    ap (filter_map h) (take-next xs at d inside) ∙ filter_map-append h (take at xs) (slice_index_or xs at d ∷ [])

-- so a list that has what stands for those has it for one more, once that is added
pub filter_map-more : {X Y : Type 0} (h : X → Option Y) (xs : List X) (at : ℕ) (x : X) (old new : List Y) (more : Option Y)
    → at < length xs → x ≡ slice_index_or xs at x → old ≡ filter_map h (take at xs) → more ≡ h x → new ≡ old ++ listed more
    → new ≡ filter_map h (take (at + 1) xs)
filter_map-more h xs at x old new more inside item before stands added =
    added ∙ ap (λ items. items ++ listed more) before
    ∙ ap (λ it. filter_map h (take at xs) ++ listed it) (stands ∙ ap h item)
    ∙ sym (filter_map-next h xs at x inside)

-- two lists of one length make as many pairs
pub length-zip : {X Y : Type 0} (xs : List X) (ys : List Y) → length ys ≡ length xs → length (zip xs ys) ≡ length xs
length-zip [] ys same = refl
length-zip (x ∷ xs) [] same = absurd (omega (arith, same))
length-zip (x ∷ xs) (y ∷ ys) same = ap (λ n. suc n) (length-zip xs ys (omega (arith, same)))

-- a pair has what stands at its place in each
zip_at : {X Y : Type 0} (xs : List X) (ys : List Y) (at : ℕ) (x : X) (y : Y) → at < length xs → at < length ys
    → slice_index_or (zip xs ys) at (x, y) ≡ (slice_index_or xs at x, slice_index_or ys at y)
zip_at [] ys at x y here there = absurd (omega (arith, here))
zip_at (a ∷ xs) [] at x y here there = absurd (omega (arith, there))
zip_at (a ∷ xs) (b ∷ ys) zero x y here there = refl
zip_at (a ∷ xs) (b ∷ ys) (suc at) x y here there = zip_at xs ys at x y (omega (arith, here)) (omega (arith, there))

-- so the pair of what stands there is that at the place
pub pair_at : {X Y : Type 0} (xs : List X) (ys : List Y) (at : ℕ) (x : X) (y : Y) → at < length xs → at < length ys
    → x ≡ slice_index_or xs at x → y ≡ slice_index_or ys at y → (x, y) ≡ slice_index_or (zip xs ys) at (x, y)
pair_at xs ys at x y here there one other = ap₂ (λ a b. (a, b)) one other ∙ sym (zip_at xs ys at x y here there)
