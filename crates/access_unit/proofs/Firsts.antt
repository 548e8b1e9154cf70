-- The refusal of NAL units is that of the first which shows one.
use Rattle.std.proofs.Common.{◌≡◌, ℕ, ◌<◌, ◌+◌, ⊎_elim, List, [], ◌∷◌, ◌++◌, length, take, drop, get_or, Option, None, Some, refl, ap, sym, ◌∙◌, inl, inr, append_assoc}
use Rattle.std.proofs.lemmas.List.{append-nil, take-append-drop, drop_more, take_more}
use Rattle.std.specs.Option.{option_or}
use Rattle.access_unit.specs.declared.refused.Refused.{Refused}
use Rattle.access_unit.specs.Refusals.{refusal_at, first_refusal, refusal_of}
use Rattle.access_unit.specs.Stored.{IsShown}

option_or_assoc : {A : Type 0} (a b c : Option A) → option_or (option_or a b) c ≡ option_or a (option_or b c)
option_or_assoc None b c = refl
option_or_assoc (Some a) b c = refl

first_refusal-append : (before units more : List (List ℕ))
    → first_refusal before (units ++ more) ≡ option_or (first_refusal before units) (first_refusal (before ++ units) more)
first_refusal-append before [] more = rw append-nil refl
first_refusal-append before (unit ∷ units) more =
    rw (first_refusal-append (before ++ unit ∷ []) units more, append_assoc)
    (sym (option_or_assoc (refusal_at before unit) (first_refusal (before ++ unit ∷ []) units) (first_refusal (before ++ unit ∷ units) more)))

module _ (nals : List (List ℕ)) (at : ℕ) (sound : first_refusal [] (take at nals) ≡ None) (here : at < length nals) where
  abbrev unit : List ℕ
  unit = get_or nals at []

  -- one NAL unit more shows no refusal
  pub first_refusal-more : refusal_at (take at nals) (get_or nals at []) ≡ None → first_refusal [] (take (at + 1) nals) ≡ None
  first_refusal-more none = rw (take_more nals at [] here, first_refusal-append [] (take at nals) (unit ∷ []), sound, none) refl

  -- the first refusal is that of the access unit
  pub refusal_of-first : (refused : Refused) → refusal_at (take at nals) (get_or nals at []) ≡ Some refused → refusal_of nals ≡ Some refused
  refusal_of-first refused shown =
      let parts : take at nals ++ unit ∷ drop (at + 1) nals ≡ nals = ap (λ l. take at nals ++ l) (sym (drop_more nals at [] here)) ∙ take-append-drop at nals in
      ap (first_refusal []) (sym parts) ∙ first_refusal-append [] (take at nals) (unit ∷ drop (at + 1) nals)
      ∙ (rw (sound, shown) refl)

  pub IsShown-first : (refused : Refused) → IsShown (refusal_at (take at nals) (get_or nals at [])) refused → IsShown (refusal_of nals) refused
  IsShown-first refused h = ⊎_elim (λ memory. inl memory) (λ (shown : refusal_at (take at nals) unit ≡ Some refused). inr (refusal_of-first refused shown)) h
