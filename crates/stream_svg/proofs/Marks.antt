-- Escaped texts: what is read back of them, and which bytes they have.
use Rattle.std.proofs.Common.{◌≡◌, ◌≢◌, ℕ, List, [], ◌∷◌, ◌++◌, ⊎_elim, refl, sym, subst, true, Bool, not, ◌&&◌, codes}
use Rattle.std.specs.List.{All}
use Rattle.std.proofs.lemmas.Bool.{and_parts, cases_eq, eqb-false, ne_eqb, not-true}
use Rattle.std.proofs.Math.Dec.{eqb}
use Rattle.std.proofs.lemmas.List.Elements.{All-nil, All-cons, All-append}
use Rattle.stream_svg.specs.Escapes.{mark_of, escaped, IsHarmless, ReadsAs}
use Rattle.stream_svg.specs.Escapes.ReadsAs.{nothing, quot, amp, apos, lt, gt, other}

-- a byte without a meaning is written as itself
plain : (byte : ℕ) → byte ≢ 34 → byte ≢ 38 → byte ≢ 39 → byte ≢ 60 → byte ≢ 62 → mark_of byte ≡ byte ∷ []
plain byte a b c d e = rw (ne_eqb byte 34 a, ne_eqb byte 38 b, ne_eqb byte 39 c, ne_eqb byte 60 d, ne_eqb byte 62 e) refl

-- by which byte it is
module _ (P : ℕ → Type 0) (q : P 34) (a : P 38) (s : P 39) (l : P 60) (g : P 62)
    (o : (byte : ℕ) → byte ≢ 34 → byte ≢ 38 → byte ≢ 39 → byte ≢ 60 → byte ≢ 62 → P byte) where
  each : (byte : ℕ) → P byte
  each byte =
      ⊎_elim (λ is. subst P (sym is) q) (λ not34.
      ⊎_elim (λ is. subst P (sym is) a) (λ not38.
      ⊎_elim (λ is. subst P (sym is) s) (λ not39.
      ⊎_elim (λ is. subst P (sym is) l) (λ not60.
      ⊎_elim (λ is. subst P (sym is) g) (λ not62. o byte not34 not38 not39 not60 not62)
      (cases_eq byte 62)) (cases_eq byte 60)) (cases_eq byte 39)) (cases_eq byte 38)) (cases_eq byte 34)

mark_reads : (marks text : List ℕ) → ReadsAs marks text → (byte : ℕ) → ReadsAs (mark_of byte ++ marks) (byte ∷ text)
mark_reads marks text reads = each (λ byte. ReadsAs (mark_of byte ++ marks) (byte ∷ text))
    (quot marks text reads) (amp marks text reads) (apos marks text reads) (lt marks text reads) (gt marks text reads)
    (λ byte a b c d e. rw (plain byte a b c d e) (other byte marks text b reads))

pub reads_back : (text : List ℕ) → ReadsAs (escaped text) text
reads_back [] = nothing
reads_back (byte ∷ text) = mark_reads (escaped text) text (reads_back text) byte

abbrev AreHarmless : List ℕ → Type 0
AreHarmless marks = All IsHarmless marks

-- a test for that
abbrev is_safe : ℕ → Bool
is_safe byte = not (eqb byte 34) && (not (eqb byte 39) && (not (eqb byte 60) && not (eqb byte 62)))

abbrev are_safe : List ℕ → Bool
are_safe [] = true
are_safe (byte ∷ marks) = is_safe byte && are_safe marks

tested : (marks : List ℕ) → are_safe marks ≡ true → AreHarmless marks
tested [] e = All-nil IsHarmless
tested (byte ∷ marks) e =
    let here = and_parts (is_safe byte) (are_safe marks) e in
    let one = and_parts (not (eqb byte 34)) (not (eqb byte 39) && (not (eqb byte 60) && not (eqb byte 62))) here.0 in
    let two = and_parts (not (eqb byte 39)) (not (eqb byte 60) && not (eqb byte 62)) one.1 in
    let three = and_parts (not (eqb byte 60)) (not (eqb byte 62)) two.1 in
    All-cons IsHarmless byte marks
    (eqb-false byte 34 (not-true (eqb byte 34) one.0), eqb-false byte 39 (not-true (eqb byte 39) two.0), eqb-false byte 60 (not-true (eqb byte 60) three.0), eqb-false byte 62 (not-true (eqb byte 62) three.1))
    (tested marks here.1)

mark_harmless : (byte : ℕ) → AreHarmless (mark_of byte)
mark_harmless = each (λ byte. AreHarmless (mark_of byte))
    (tested (codes "&quot;") refl) (tested (codes "&amp;") refl) (tested (codes "&#39;") refl) (tested (codes "&lt;") refl) (tested (codes "&gt;") refl)
    (λ byte a b c d e. rw (plain byte a b c d e) (All-cons IsHarmless byte [] (a, c, d, e) (All-nil IsHarmless)))

pub harmless : (text : List ℕ) → AreHarmless (escaped text)
harmless [] = All-nil IsHarmless
harmless (byte ∷ text) = All-append IsHarmless (mark_of byte) (escaped text) (mark_harmless byte) (harmless text)
