-- The numbers below an end that are not live, the greatest first: what is left of them where the last one is given.
use Rattle.std.proofs.Common.{◌≡◌, refl, ap, sym, ◌∙◌, ℕ, zero, suc, ◌<◌, ◌≤◌, List, [], ◌∷◌, ◌++◌, length, get_or, Bool, true, false, ◌||◌, Contains, append_assoc, subst, inl, inr, arith}
use Rattle.std.specs.Prelude.{nat_eq, slice_set}
use Rattle.std.specs.List.{list_any}
use Rattle.std.proofs.lemmas.Bool.{cases_eq, eqb-true, eq-eqb, ne_eqb}
use Rattle.std.proofs.lemmas.List.{length-append, length-set, get_or_default}
use Rattle.std.proofs.lemmas.Grind.{common_steps}
use Rattle.std.proofs.lemmas.List.Folds.{list_any-append, list_any_at}
use Rattle.std.proofs.lemmas.Map.Views.{Contains-from_any}
use Rattle.decode_jobs.specs.Placed.{AreNumbered, ArePlaced, IsLeastUnused, IsUnused, unused_below}

abbrev Has : List ℕ → ℕ → Bool
Has live number = list_any (nat_eq number) live

live_of : (live : List ℕ) (number : ℕ) → Has live number ≡ true → Contains live number
live_of live number is = Contains-from_any (λ x y e. eqb-true x y e) number live is

unused_of : (live : List ℕ) (number : ℕ) → Has live number ≡ false → IsUnused live number
unused_of live number is i lt same =
    let found : Has live number ≡ true = list_any_at (nat_eq number) live i 0 lt (eq-eqb number (get_or live i 0) (sym same)) in
    cc

-- what is among live numbers with one more
has_more : (live : List ℕ) (more number : ℕ) → Has (live ++ more ∷ []) number ≡ (Has live number || (nat_eq number more || false))
has_more live more number = list_any-append (nat_eq number) live (more ∷ [])

has_still : (live : List ℕ) (more number : ℕ) → Has live number ≡ true → Has (live ++ more ∷ []) number ≡ true
has_still live more number is = has_more live more number ∙ ap (λ b. b || (nat_eq number more || false)) is

has_itself : (live : List ℕ) (more : ℕ) → Has live more ≡ false → Has (live ++ more ∷ []) more ≡ true
has_itself live more is =
    has_more live more more ∙ ap (λ b. b || (nat_eq more more || false)) is ∙ ap (λ b. b || false) (eq-eqb more more refl)

has_not : (live : List ℕ) (more number : ℕ) → Has live number ≡ false → (number ≡ more → ⊥) → Has (live ++ more ∷ []) number ≡ false
has_not live more number is other =
    has_more live more number ∙ ap (λ b. b || (nat_eq number more || false)) is ∙ ap (λ b. b || false) (ne_eqb number more other)

step_true : (live : List ℕ) (n : ℕ) → Has live n ≡ true → unused_below live (suc n) ≡ unused_below live n
step_true live n is = rw is refl

step_false : (live : List ℕ) (n : ℕ) → Has live n ≡ false → unused_below live (suc n) ≡ n ∷ unused_below live n
step_false live n is = rw is refl

-- numbers from the end on don't count
same_below : (live : List ℕ) (more n : ℕ) → n ≤ more → unused_below (live ++ more ∷ []) n ≡ unused_below live n
same_below live more zero le = refl
same_below live more (suc n) le =
    (elim (Has live n) as (λ b. Has live n ≡ b → unused_below (live ++ more ∷ []) (suc n) ≡ unused_below live (suc n)) [
      | true ↦ λ is.
          step_true (live ++ more ∷ []) n (has_still live more n is) ∙ (same_below live more n (omega arith) ∙ sym (step_true live n is))
      | false ↦ λ is.
          step_false (live ++ more ∷ []) n (has_not live more n is (λ same. omega (arith, same, le)))
          ∙ (ap (λ ns. n ∷ ns) (same_below live more n (omega arith)) ∙ sym (step_false live n is))
    ]) refl

-- where none is unused, all are live
all_live : (live : List ℕ) (n : ℕ) → unused_below live n ≡ [] → (number : ℕ) → number < n → Contains live number
all_live live zero none number lt = absurd (omega (arith, lt))
all_live live (suc n) none number lt =
    (elim (Has live n) as (λ b. Has live n ≡ b → Contains live number) [
      | true ↦ λ is. elim (cases_eq number n) [
        | inl same ↦ subst (λ (k : ℕ). Contains live k) (sym same) (live_of live n is)
        | inr other ↦ all_live live n (sym (step_true live n is) ∙ none) number (omega (arith, lt, other))
      ]
      | false ↦ λ is. let wrong : n ∷ unused_below live n ≡ [] = sym (step_false live n is) ∙ none in absurd cc
    ]) refl

-- the last of them is the least, and the others are left once it is live
pub record IsTaken (live rest : List ℕ) (number n : ℕ) : Type 0 where
  pub below : number < n
  pub least : IsLeastUnused live number
  pub left : unused_below (live ++ number ∷ []) n ≡ rest

taken_first : (live rest : List ℕ) (number n : ℕ)
    → ((before : List ℕ) → unused_below live n ≡ before ++ number ∷ [] → IsTaken live before number n)
    → Has live n ≡ false → n ∷ unused_below live n ≡ rest ++ number ∷ [] → IsTaken live rest number (suc n)
taken_first live [] number n taken_before has is =
    let same : n ≡ number = cc in
    let none : unused_below live n ≡ [] = cc in
    subst (λ (k : ℕ). IsTaken live [] k (suc n)) same (record {
      below = omega arith;
      least = record { unused = unused_of live n has; least = all_live live n none };
      left = step_true (live ++ n ∷ []) n (has_itself live n has) ∙ (same_below live n n (omega arith) ∙ none);
    })
taken_first live (first ∷ rest) number n taken_before has is =
    let same : n ≡ first = cc in
    let more : unused_below live n ≡ rest ++ number ∷ [] = cc in
    let before = taken_before rest more in
    record {
      below = omega (arith, before.below);
      least = before.least;
      left =
          step_false (live ++ number ∷ []) n (has_not live number n has (λ e. omega (arith, e, before.below)))
          ∙ (ap (λ ns. n ∷ ns) before.left ∙ ap (λ k. k ∷ rest) same);
    }

pub taken : (live rest : List ℕ) (number n : ℕ) → unused_below live n ≡ rest ++ number ∷ [] → IsTaken live rest number n
taken live rest number zero is = absurd (omega (arith, ap length is, length-append rest (number ∷ [])))
taken live rest number (suc n) is =
    (elim (Has live n) as (λ b. Has live n ≡ b → IsTaken live rest number (suc n)) [
      | true ↦ λ has.
          let before = taken live rest number n (sym (step_true live n has) ∙ is) in
          record {
            below = omega (arith, before.below);
            least = before.least;
            left = step_true (live ++ number ∷ []) n (has_still live number n has) ∙ before.left;
          }
      | false ↦ λ has. taken_first live rest number n (λ before. taken live before number n) has (sym (step_false live n has) ∙ is)
    ]) refl

has_fresh : (live : List ℕ) (more : ℕ) → Has (live ++ more ∷ []) more ≡ true
has_fresh live more =
    (elim (Has live more) as (λ b. Has live more ≡ b → Has (live ++ more ∷ []) more ≡ true) [
      | true ↦ λ is. has_still live more more is
      | false ↦ λ is. has_itself live more is
    ]) refl

-- where none is unused, none is left once the end itself is live
fresh_left : (live : List ℕ) (n : ℕ) → unused_below live n ≡ [] → unused_below (live ++ n ∷ []) (suc n) ≡ []
fresh_left live n none = step_true (live ++ n ∷ []) n (has_fresh live n) ∙ (same_below live n n (omega arith) ∙ none)

-- a number that isn't live
has_none : (live : List ℕ) (number : ℕ) → IsUnused live number → Has live number ≡ false
has_none live number unused =
    (elim (Has live number) as (λ b. Has live number ≡ b → Has live number ≡ false) [
      | true ↦ λ is.
          let there = live_of live number is in
          absurd (unused there.0 there.1 (get_or_default live there.0 0 number there.1 ∙ there.2))
      | false ↦ λ is. is
    ]) refl

-- what is found, with one number more
pub left_unused : (live found : List ℕ) (number : ℕ) → IsUnused live number
    → (found ++ number ∷ []) ++ unused_below live number ≡ found ++ unused_below live (suc number)
left_unused live found number unused =
    append_assoc found (number ∷ []) (unused_below live number)
    ∙ ap (λ ns. found ++ ns) (sym (step_false live number (has_none live number unused)))

-- what is kept where the last unused number is given, and where none is unused
pub placed_taken : (live places : List ℕ) (number : ℕ) → ArePlaced live places → IsUnused live number → number < length places
    → ArePlaced (live ++ number ∷ []) (slice_set places number (length live))
placed_taken live places number placed unused below = record {
  below = λ i lt. grind (arith, common_steps, placed.below i);
  exact = λ i lt. grind (arith, common_steps, placed.exact i, placed.below i, unused i);
}

pub placed_fresh : (live places : List ℕ) → ArePlaced live places
    → ArePlaced (live ++ length places ∷ []) (places ++ length live ∷ [])
placed_fresh live places placed = record {
  below = λ i lt. grind (arith, common_steps, placed.below i);
  exact = λ i lt. grind (arith, common_steps, placed.exact i, placed.below i);
}

pub numbered_taken : (live places spare rest more moved : List ℕ) (number place : ℕ) → AreNumbered live places spare
    → spare ≡ rest ++ number ∷ [] → place ≡ length live → more ≡ live ++ number ∷ [] → moved ≡ slice_set places number place
    → AreNumbered more moved rest
numbered_taken live places spare rest more moved number place numbered is place_is more_is moved_is =
    let took = taken live rest number (length places) (sym numbered.spared ∙ is) in
    let moved_to : moved ≡ slice_set places number (length live) = moved_is ∙ ap (slice_set places number) place_is in
    let long : length (slice_set places number (length live)) ≡ length places = length-set places number (length live) in
    rw (more_is, moved_to) (record {
      placed = placed_taken live places number numbered.placed took.least.unused took.below;
      spared = sym (ap (unused_below (live ++ number ∷ [])) long ∙ took.left);
    })

pub numbered_fresh : (live places spare more moved left : List ℕ) (number place : ℕ) → AreNumbered live places spare → spare ≡ []
    → left ≡ [] → number ≡ length places → place ≡ length live → more ≡ live ++ number ∷ [] → moved ≡ places ++ place ∷ []
    → AreNumbered more moved left
numbered_fresh live places spare more moved left number place numbered none left_is number_is place_is more_is moved_is =
    let long : length (places ++ length live ∷ []) ≡ suc (length places) = omega (arith, length-append places (length live ∷ [])) in
    rw (more_is, moved_is, left_is, number_is, place_is) (record {
      placed = placed_fresh live places numbered.placed;
      spared = sym (ap (unused_below (live ++ length places ∷ [])) long
          ∙ fresh_left live (length places) (sym numbered.spared ∙ none));
    })

-- then the first number without a place is the least that isn't live
pub least_fresh : (live places spare : List ℕ) → AreNumbered live places spare → spare ≡ [] → IsLeastUnused live (length places)
least_fresh live places spare numbered none = record {
  unused = λ i lt same. omega (arith, numbered.placed.below i lt, same);
  least = all_live live (length places) (sym numbered.spared ∙ none);
}

pub nil_of : (xs : List ℕ) → length xs ≡ 0 → xs ≡ []
nil_of [] none = refl
nil_of (x ∷ xs) none = absurd (omega (arith, none))
