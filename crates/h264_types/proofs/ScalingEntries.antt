-- Lists that are written place by place, and the entries of a scaling list, one after the other.
use Rattle.std.proofs.Common.{◌≡◌, ℕ, ◌+◌, ◌<◌, List, [], ◌∷◌, ◌++◌, ℤ, refl, sym, ◌∙◌, ap, length, take, drop, get_or, append-nil}
use Rattle.std.proofs.Math.ListN.{set}
use Rattle.std.proofs.Math.Seq.{take-add}
use Rattle.std.proofs.lemmas.List.{drop-drop}
use Rattle.std.proofs.lemmas.List.Edits.{fill_by_more}
use Rattle.std.proofs.lemmas.List.Sums.{fold_push}
use Rattle.h264_types.specs.ScaleSteps.{scale_after, next_scale}

-- one place more has its value
pub place_more : (f : ℕ → ℕ) (xs : List ℕ) (i v : ℕ) → v ≡ f i → i < length xs → ((k : ℕ) → k < i → get_or xs k 0 ≡ f k) → (k : ℕ) → k < i + 1 → get_or (set xs i v) k 0 ≡ f k
place_more f xs i v is within written = rw is (fill_by_more f xs i 0 within written)

-- after one delta more, or where none is left
pub scale_further : (kept rest after : List ℤ) (i scale next : ℕ) → scale ≡ next_scale (take i kept) → rest ≡ drop i kept
    → (rest ≡ [] → next ≡ scale) → ((delta : ℤ) (more : List ℤ) → rest ≡ delta ∷ more → next ≡ scale_after scale delta)
    → next ≡ next_scale (take (i + 1) kept)
scale_further kept [] after i scale next last left ended further =
    ended refl ∙ (last ∙ ap next_scale (sym (take-add i 1 kept ∙ (ap (λ (ds : List ℤ). take i kept ++ take 1 ds) (sym left) ∙ append-nil (take i kept)))))
scale_further kept (delta ∷ more) after i scale next last left ended further =
    further delta more refl ∙ (ap (λ (n : ℕ). scale_after n delta) last
    ∙ (sym (fold_push scale_after 8 (take i kept) delta)
    ∙ ap next_scale (sym (take-add i 1 kept ∙ ap (λ (ds : List ℤ). take i kept ++ take 1 ds) (sym left)))))

-- what is left after it
pub left_further : (kept rest after : List ℤ) (i : ℕ) → rest ≡ drop i kept
    → (rest ≡ [] → after ≡ []) → ((delta : ℤ) (more : List ℤ) → rest ≡ delta ∷ more → after ≡ more)
    → after ≡ drop (i + 1) kept
left_further kept [] after i left ended further =
    ended refl ∙ (ap (λ (ds : List ℤ). drop 1 ds) left ∙ drop-drop 1 i kept)
left_further kept (delta ∷ more) after i left ended further =
    further delta more refl ∙ (ap (λ (ds : List ℤ). drop 1 ds) left ∙ drop-drop 1 i kept)
