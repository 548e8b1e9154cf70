-- Units that are drawn, one by one.
use Rattle.std.proofs.Common.{◌≡◌, ◌∙◌, ℕ, ◌+◌, ◌<◌, ◌≤◌, List, [], ◌∷◌, ◌++◌, length, Option, None, Some, slice_get, take, get_or, subst, ap, refl, sym, inl, inr, arith, length-append}
use Rattle.std.proofs.lemmas.Bool.{cases_lt}
use Rattle.std.proofs.lemmas.List.{length-take, take_more}
use Rattle.std.proofs.lemmas.Option.{slice_get_read}
use Rattle.unit_outcomes.specs.declared.doubts.walk.Doubt.{Doubt}
use Rattle.stand_in_session.specs.Machines.{Machine}
use Rattle.stream_svg.specs.declared.writing.Caption.{Caption}
use Rattle.stream_svg.specs.declared.unit.DrawnUnit.{DrawnUnit}
use Rattle.draw_run.specs.Chosen.{position_in}
use Rattle.draw_run.specs.Doubts.{doubt_in}
use Rattle.draw_run.specs.Marks.{AreShownAs, IsShownAs}
use Rattle.draw_run.specs.Shown.{AreShown, IsShownBy}
use Rattle.draw_run.specs.declared.drawn_fold.KeptUnit.{KeptUnit}
use Rattle.draw_run.proofs.Pointwise.{get-new, get-old, get-within}

-- how a unit that is kept is drawn
abbrev pub IsKeptShown : List (Option ℕ) → List Doubt → KeptUnit → DrawnUnit → Caption → Type 0
IsKeptShown positions doubts one unit caption =
    IsShownBy one.id one.outcome (position_in positions one.id) (doubt_in doubts one.id) None unit caption

pub shown-none : (positions : List (Option ℕ)) (doubts : List Doubt) → AreShown positions doubts [] [] []
shown-none positions doubts = record {
  units_long = omega arith;
  captions_long = omega arith;
  each = λ place one unit caption has unit_is caption_is. absurd (let inside = get-within [] one place has in omega (arith, inside));
}

pub shown-push : (positions : List (Option ℕ)) (doubts : List Doubt) (kept : List KeptUnit) (units : List DrawnUnit) (captions : List Caption)
    (one : KeptUnit) (unit : DrawnUnit) (caption : Caption) → AreShown positions doubts kept units captions
    → IsKeptShown positions doubts one unit caption
    → AreShown positions doubts (kept ++ one ∷ []) (units ++ unit ∷ []) (captions ++ caption ∷ [])
shown-push positions doubts kept units captions one unit caption all last = record {
  units_long = omega (arith, all.units_long, length-append units (unit ∷ []), length-append kept (one ∷ []));
  captions_long = omega (arith, all.captions_long, length-append captions (caption ∷ []), length-append kept (one ∷ []));
  each = λ place k u c has_k has_u has_c. elim (cases_lt place (length kept)) [
    | inl less ↦ all.each place k u c (get-old kept one k place less has_k)
        (get-old units unit u place (omega (arith, less, all.units_long)) has_u)
        (get-old captions caption c place (omega (arith, less, all.captions_long)) has_c)
    | inr not ↦
        let inside = get-within (kept ++ one ∷ []) k place has_k in
        let at : place ≡ length kept = omega (arith, not, inside, length-append kept (one ∷ [])) in
        subst (λ (x : Caption). IsKeptShown positions doubts k u x) (get-new captions caption c place (omega (arith, at, all.captions_long)) has_c)
        (subst (λ (x : DrawnUnit). IsKeptShown positions doubts k x caption) (get-new units unit u place (omega (arith, at, all.units_long)) has_u)
        (subst (λ (x : KeptUnit). IsKeptShown positions doubts x unit caption) (get-new kept one k place at has_k) last))
  ];
}

pub shown_as-none : (machine : Machine) (doubts : List Doubt) → AreShownAs machine [] doubts [] []
shown_as-none machine doubts = record {
  units_long = omega arith;
  captions_long = omega arith;
  each = λ place id doubt unit caption has doubt_is unit_is caption_is. absurd (let inside = get-within [] id place has in omega (arith, inside));
}

pub shown_as-push : (machine : Machine) (ids : List ℕ) (doubts : List Doubt) (units : List DrawnUnit) (captions : List Caption)
    (id : ℕ) (doubt : Doubt) (unit : DrawnUnit) (caption : Caption) → AreShownAs machine ids doubts units captions
    → slice_get doubts (length ids) ≡ Some doubt → IsShownAs machine id doubt unit caption
    → AreShownAs machine (ids ++ id ∷ []) doubts (units ++ unit ∷ []) (captions ++ caption ∷ [])
shown_as-push machine ids doubts units captions id doubt unit caption all told last = record {
  units_long = omega (arith, all.units_long, length-append units (unit ∷ []), length-append ids (id ∷ []));
  captions_long = omega (arith, all.captions_long, length-append captions (caption ∷ []), length-append ids (id ∷ []));
  each = λ place i d u c has_i has_d has_u has_c. elim (cases_lt place (length ids)) [
    | inl less ↦ all.each place i d u c (get-old ids id i place less has_i) has_d
        (get-old units unit u place (omega (arith, less, all.units_long)) has_u)
        (get-old captions caption c place (omega (arith, less, all.captions_long)) has_c)
    | inr not ↦
        let inside = get-within (ids ++ id ∷ []) i place has_i in
        let at : place ≡ length ids = omega (arith, not, inside, length-append ids (id ∷ [])) in
        let same_doubt : doubt ≡ d = one_value doubt d (sym told ∙ ap (slice_get doubts) (sym at) ∙ has_d) in
        subst (λ (x : Caption). IsShownAs machine i d u x) (get-new captions caption c place (omega (arith, at, all.captions_long)) has_c)
        (subst (λ (x : DrawnUnit). IsShownAs machine i d x caption) (get-new units unit u place (omega (arith, at, all.units_long)) has_u)
        (subst (λ (x : Doubt). IsShownAs machine i x unit caption) same_doubt
        (subst (λ (x : ℕ). IsShownAs machine x doubt unit caption) (get-new ids id i place at has_i) last)))
  ];
}
  where
    one_value : (a b : Doubt) → Some a ≡ Some b → a ≡ b
    one_value a b same = cc

-- one more of these ids, and what is told of it
pub shown_as-next : (machine : Machine) (ids : List ℕ) (doubts : List Doubt) (units : List DrawnUnit) (captions : List Caption)
    (at id : ℕ) (doubt : Doubt) (unit : DrawnUnit) (caption : Caption) → at < length ids → length doubts ≡ length ids
    → id ≡ get_or ids at id → doubt ≡ get_or doubts at doubt
    → AreShownAs machine (take at ids) doubts units captions → IsShownAs machine id doubt unit caption
    → AreShownAs machine (take (at + 1) ids) doubts (units ++ unit ∷ []) (captions ++ caption ∷ [])
shown_as-next machine ids doubts units captions at id doubt unit caption here same is says all last =
    let inside : at < length doubts = omega (arith, here, same) in
    let place : at ≡ length (take at ids) = omega (arith, here, length-take at ids) in
    let told : slice_get doubts (length (take at ids)) ≡ Some doubt =
    subst (λ (n : ℕ). slice_get doubts n ≡ Some doubt) place (slice_get_read doubts (length doubts) at doubt refl inside says) in
    let taken : take (at + 1) ids ≡ take at ids ++ id ∷ [] =
    take_more ids at id here ∙ ap (λ (i : ℕ). take at ids ++ i ∷ []) (sym is) in
    rw taken (shown_as-push machine (take at ids) doubts units captions id doubt unit caption all told last)
