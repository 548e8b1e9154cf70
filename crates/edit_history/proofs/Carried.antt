-- Units and their texts under insertions, deletions and replacements.
use Rattle.std.proofs.Common.{◌≡◌, ℕ, zero, suc, ◌+◌, ◌≤◌, ◌<◌, List, [], ◌∷◌, ◌++◌, length, take, drop, set, refl, ap, sym, subst, arith}
use Rattle.std.specs.Prelude.{insert, remove}
use Rattle.std.proofs.Math.Seq.{take-append_seam, drop-append-add}
use Rattle.std.proofs.lemmas.List.{length-take-le, set_split, take-append-drop}
use Rattle.access_unit.specs.Answers.{IsAccepted}
use Rattle.stream_edits.specs.Streams.{Stream}
use Rattle.edit_history.specs.Texts.{Texts, Carries}

pub Carries-length : (units : Stream) (texts : Texts) → Carries units texts → length units ≡ length texts
Carries-length [] [] is = refl
Carries-length [] (text ∷ texts) is = absurd is
Carries-length (unit ∷ units) [] is = absurd is
Carries-length (unit ∷ units) (text ∷ texts) is = ap suc (Carries-length units texts is.1)

Carries-append : (units : Stream) (texts : Texts) (more : Stream) (others : Texts) → Carries units texts → Carries more others
    → Carries (units ++ more) (texts ++ others)
Carries-append [] [] more others is are = are
Carries-append [] (text ∷ texts) more others is are = absurd is
Carries-append (unit ∷ units) [] more others is are = absurd is
Carries-append (unit ∷ units) (text ∷ texts) more others is are = (is.0, Carries-append units texts more others is.1 are)

Carries-take : (at : ℕ) (units : Stream) (texts : Texts) → Carries units texts → Carries (take at units) (take at texts)
Carries-take zero units texts is = tt
Carries-take (suc at) [] [] is = tt
Carries-take (suc at) [] (text ∷ texts) is = absurd is
Carries-take (suc at) (unit ∷ units) [] is = absurd is
Carries-take (suc at) (unit ∷ units) (text ∷ texts) is = (is.0, Carries-take at units texts is.1)

Carries-drop : (at : ℕ) (units : Stream) (texts : Texts) → Carries units texts → Carries (drop at units) (drop at texts)
Carries-drop zero units texts is = is
Carries-drop (suc at) [] [] is = tt
Carries-drop (suc at) [] (text ∷ texts) is = absurd is
Carries-drop (suc at) (unit ∷ units) [] is = absurd is
Carries-drop (suc at) (unit ∷ units) (text ∷ texts) is = Carries-drop at units texts is.1

-- in front of an insertion, and behind it
pub take-inserted : {X : Type 0} (xs : List X) (at : ℕ) (x : X) → at ≤ length xs → take at (insert xs at x) ≡ take at xs
take-inserted xs at x within =
    let long = length-take-le at xs within in
    subst (λ n. take n (take at xs ++ x ∷ drop at xs) ≡ take at xs) long (take-append_seam (take at xs) (x ∷ drop at xs))

pub drop-inserted : {X : Type 0} (xs : List X) (at : ℕ) (x : X) → at ≤ length xs → drop (suc at) (insert xs at x) ≡ drop at xs
drop-inserted xs at x within =
    let long : length (take at xs) + 1 ≡ suc at = omega (arith, length-take-le at xs within) in
    subst (λ n. drop n (take at xs ++ x ∷ drop at xs) ≡ drop at xs) long (drop-append-add (take at xs) (x ∷ drop at xs) 1)

-- a unit more
pub Carries-insert : (units : Stream) (texts : Texts) (at id : ℕ) (unit : List (List ℕ)) (text : List ℕ) → Carries units texts
    → IsAccepted text unit → Carries (insert units at (id, unit)) (insert texts at text)
Carries-insert units texts at id unit text is accepted =
    Carries-append (take at units) (take at texts) ((id, unit) ∷ drop at units) (text ∷ drop at texts) (Carries-take at units texts is)
    (accepted, Carries-drop at units texts is)

-- one fewer
pub Carries-remove : (units : Stream) (texts : Texts) (at : ℕ) (text : List ℕ) → at ≤ length texts
    → Carries units (insert texts at text) → Carries (remove units at) texts
Carries-remove units texts at text within is =
    let front : Carries (take at units) (take at texts) =
    subst (λ (front : Texts). Carries (take at units) front) (take-inserted texts at text within) (Carries-take at units (insert texts at text) is) in
    let rest : Carries (drop (suc at) units) (drop at texts) =
    subst (λ (rest : Texts). Carries (drop (suc at) units) rest) (drop-inserted texts at text within) (Carries-drop (suc at) units (insert texts at text) is) in
    subst (λ (whole : Texts). Carries (remove units at) whole) (take-append-drop at texts)
    (Carries-append (take at units) (take at texts) (drop (suc at) units) (drop at texts) front rest)

-- another one
pub Carries-set : (units : Stream) (others : Texts) (at id : ℕ) (unit : List (List ℕ)) (former text : List ℕ) → at ≤ length others → at < length units
    → Carries units (insert others at former) → IsAccepted text unit → Carries (set units at (id, unit)) (insert others at text)
Carries-set units others at id unit former text within inside is accepted =
    let front : Carries (take at units) (take at others) =
    subst (λ (front : Texts). Carries (take at units) front) (take-inserted others at former within) (Carries-take at units (insert others at former) is) in
    let rest : Carries (drop (suc at) units) (drop at others) =
    subst (λ (rest : Texts). Carries (drop (suc at) units) rest) (drop-inserted others at former within) (Carries-drop (suc at) units (insert others at former) is) in
    subst (λ (whole : Stream). Carries whole (insert others at text)) (sym (set_split units at (id, unit) inside))
    (Carries-append (take at units) (take at others) ((id, unit) ∷ drop (suc at) units) (text ∷ drop at others) front (accepted, rest))
