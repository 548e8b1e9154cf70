-- What slices give, with one slice more at the end.
use Rattle.std.proofs.Common.{◌≡◌, ◌<◌, ◌≤◌, List, [], ◌∷◌, ◌++◌, map, Ok, Err, ⊎_elim, arith, refl, ap, sym, ◌∙◌}
use Rattle.std.specs.Prelude.{Result, if◌then◌else◌}
use Rattle.std.proofs.lemmas.List.{map-append}
use Rattle.std.proofs.lemmas.Bool.{le-leb, lt-leb, cases_lt}
use Rattle.unit_outcomes.specs.declared.validity_fault.ValidityFault.{ValidityFault}
use Rattle.unit_outcomes.specs.Numbers.{number_of}
use Rattle.slice_reading.specs.Numbers.{lower, joined, gathered}
use Rattle.slice_reading.specs.Gathering.{gathered_after}

-- the first is kept, or the second
lower_kept : (a b : ValidityFault) → number_of a ≤ number_of b → lower a b ≡ a
lower_kept a b h = ap (λ t. if t then a else b) (le-leb (number_of a) (number_of b) h)

lower_left : (a b : ValidityFault) → number_of b < number_of a → lower a b ≡ b
lower_left a b h = ap (λ t. if t then a else b) (lt-leb (number_of a) (number_of b) h)

-- of three faults, in either order
lower-assoc : (a b c : ValidityFault) → lower a (lower b c) ≡ lower (lower a b) c
lower-assoc a b c = ⊎_elim (λ ba. ⊎_elim (down ba) (mixed ba) (cases_lt (number_of c) (number_of b)))
    (λ ab. ⊎_elim (late ab) (up ab) (cases_lt (number_of c) (number_of b)))
    (cases_lt (number_of b) (number_of a))
  where
    down : number_of b < number_of a → number_of c < number_of b → lower a (lower b c) ≡ lower (lower a b) c
    down ba cb = ap (lower a) (lower_left b c cb) ∙ (lower_left a c (omega arith) ∙ (sym (lower_left b c cb) ∙ ap (λ t. lower t c) (sym (lower_left a b ba))))

    mixed : number_of b < number_of a → number_of b ≤ number_of c → lower a (lower b c) ≡ lower (lower a b) c
    mixed ba bc = ap (lower a) (lower_kept b c bc) ∙ (lower_left a b ba ∙ (sym (lower_kept b c bc) ∙ ap (λ t. lower t c) (sym (lower_left a b ba))))

    late : number_of a ≤ number_of b → number_of c < number_of b → lower a (lower b c) ≡ lower (lower a b) c
    late ab cb = ap (lower a) (lower_left b c cb) ∙ ap (λ t. lower t c) (sym (lower_kept a b ab))

    up : number_of a ≤ number_of b → number_of b ≤ number_of c → lower a (lower b c) ≡ lower (lower a b) c
    up ab bc = ap (lower a) (lower_kept b c bc) ∙ (lower_kept a b ab ∙ (sym (lower_kept a c (omega arith)) ∙ ap (λ t. lower t c) (sym (lower_kept a b ab))))

joined-after : {A : Type 0} (x : Result A ValidityFault) (between : Result (List A) ValidityFault) (last : Result A ValidityFault)
    → joined x (gathered_after between last) ≡ gathered_after (joined x between) last
joined-after (Ok x) (Ok xs) (Ok y) = refl
joined-after (Ok x) (Ok xs) (Err g) = refl
joined-after (Ok x) (Err f) (Ok y) = refl
joined-after (Ok x) (Err f) (Err g) = refl
joined-after (Err e) (Ok xs) (Ok y) = refl
joined-after (Err e) (Ok xs) (Err g) = refl
joined-after (Err e) (Err f) (Ok y) = refl
joined-after (Err e) (Err f) (Err g) = ap Err (lower-assoc e f g)

-- one answer more
pub gathered-more : {A : Type 0} (answers : List (Result A ValidityFault)) (last : Result A ValidityFault)
    → gathered (answers ++ last ∷ []) ≡ gathered_after (gathered answers) last
gathered-more [] (Ok x) = refl
gathered-more [] (Err f) = refl
gathered-more (answer ∷ answers) last =
    ap (joined answer) (gathered-more answers last) ∙ joined-after answer (gathered answers) last

-- what one item more gives
pub gathered-map-more : {A B : Type 0} (f : A → Result B ValidityFault) (items : List A) (last : A)
    → gathered (map f (items ++ last ∷ [])) ≡ gathered_after (gathered (map f items)) (f last)
gathered-map-more f items last = ap gathered (map-append f items (last ∷ [])) ∙ gathered-more (map f items) (f last)
