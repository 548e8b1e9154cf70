-- Which states are stored after a change, and where.
use Rattle.std.proofs.Common.{◌≡◌, ◌⊎◌, ℕ, ◌+◌, ◌-◌, ◌<◌, ◌≤◌, Bool, true, false, List, [], ◌∷◌, ◌++◌, map, All, Contains, Some, None, refl, ap, if◌then◌else◌, subst, sym, ◌∙◌, arith, inl, inr, leb}
use Rattle.std.specs.Map.{keys_of, lookup}
use Rattle.std.specs.Ordering.{nat_cmp}
use Rattle.std.specs.BTreeMap.{insert_entry}
use Rattle.std.proofs.lemmas.Bool.{cases_eq, eq-eqb, ne_eqb, leb-true, or_cases, lt-ltb, le-ltb}
use Rattle.std.proofs.lemmas.List.Elements.{All-head, All-tail}
use Rattle.request_core.specs.States.{FoldState}
use Rattle.checkpoints.specs.declared.shifting.LengthChange.{LengthChange}
use Rattle.std.specs.Prelude.{reverse, nat_eq, is_some}
use Rattle.std.proofs.lemmas.List.{reverse-append}
use Rattle.checkpoints.specs.Stored.{Stored, IsStoredAt, spare_after_put}
use Rattle.checkpoints.specs.Changes.{is_kept, cut, moved, changed, shifted}
use Rattle.checkpoints.proofs.Stores.{lookup_put, lookup_cut, from_shifted, keys_shifted}
use Rattle.checkpoints.proofs.Members.{Contains_cases, Contains_map, Contains_put, Contains_put_new, Contains_cut}
use Rattle.stream_fold.specs.Storing.{put_all}

abbrev pub States : Type 0
States = List (ℕ × FoldState)

-- what holds of the states that are there and of those that are put holds of all
pub all_put : (P : ℕ → FoldState → Type 0) (made states : States) → All (λ e. P e.0 e.1) made
    → ((place : ℕ) (state : FoldState) → IsStoredAt states place state → P place state)
    → (place : ℕ) (state : FoldState) → IsStoredAt (put_all made states) place state → P place state
all_put P [] states all each = each
all_put P (e ∷ made) states all each =
    all_put P made (insert_entry nat_cmp states e.0 e.1) (All-tail (λ (e : ℕ × FoldState). P e.0 e.1) e made all)
    (λ place state is. elim (cases_eq place e.0) [
      | inl at ↦
          let found : Some e.1 ≡ Some state = sym (rw (eq-eqb place e.0 at) at (lookup_put states e.0 e.1 place)) ∙ is in
          let same : e.1 ≡ state = cc in
          subst (λ (p : ℕ). P p state) (sym at) (subst (λ (s : FoldState). P e.0 s) same (All-head (λ (e : ℕ × FoldState). P e.0 e.1) e made all))
      | inr other ↦ each place state (sym (rw (ne_eqb place e.0 other) at (lookup_put states e.0 e.1 place)) ∙ is)
    ])

-- what is stored after a cut was stored, and wasn't cut
pub from_cut : (states : States) (low high place : ℕ) (state : FoldState) → IsStoredAt (cut low high states) place state
    → IsStoredAt states place state × ((place ≤ low) ⊎ (high ≤ place))
from_cut states low high place state is =
    (elim (is_kept low high place) as (λ b. is_kept low high place ≡ b → IsStoredAt states place state × ((place ≤ low) ⊎ (high ≤ place))) [
      | true ↦ λ kept.
          let there = rw kept at (lookup_cut states low high place) in (
            sym there ∙ is,
            elim (or_cases (leb place low) (leb high place) kept) [
              | inl le ↦ inl (leb-true place low le)
              | inr ge ↦ inr (leb-true high place ge)
            ],
          )
      | false ↦ λ kept.
          let gone = rw kept at (lookup_cut states low high place) in
          let none : Some state ≡ None = sym is ∙ gone in
          absurd cc
    ]) refl

-- what is stored in the end is one of the new states, or a kept one at its own place or moved
pub kept_cases : (P : ℕ → FoldState → Type 0) (states : States) (kept stays : ℕ) (change : LengthChange) → kept < stays
    → ((place : ℕ) (state : FoldState) → IsStoredAt states place state → place ≤ kept → P place state)
    → ((place : ℕ) (state : FoldState) → IsStoredAt states place state → stays ≤ place → P (changed change place) state)
    → (place : ℕ) (state : FoldState) → IsStoredAt (shifted stays change (cut kept stays states)) place state → P place state
kept_cases P states kept stays change less low high place state is =
    let from = from_shifted stays change (cut kept stays states) place state is in
    let was = from_cut states kept stays from.0 state from.1 in
    elim was.1 [
      | inl le ↦
          let before : from.0 < stays = omega (arith, le, less) in
          let same : from.0 ≡ place = sym (rw (lt-ltb from.0 stays before) refl) ∙ from.2 in
          subst (λ (p : ℕ). P p state) same (low from.0 state was.0 le)
      | inr ge ↦
          let same : changed change from.0 ≡ place = sym (rw (le-ltb from.0 stays ge) refl) ∙ from.2 in
          subst (λ (p : ℕ). P p state) same (high from.0 state was.0 ge)
    ]

-- places that are kept, moved or put
pub has_low : (states : States) (kept stays : ℕ) (change : LengthChange) (place : ℕ) → kept < stays → place ≤ kept
    → Contains (keys_of states) place → Contains (keys_of (shifted stays change (cut kept stays states))) place
has_low states kept stays change place less le there =
    let before : place < stays = omega (arith, le, less) in
    let same : moved stays change place ≡ place = rw (lt-ltb place stays before) refl in
    rw (keys_shifted stays change (cut kept stays states))
    (subst (λ (p : ℕ). Contains (map (moved stays change) (keys_of (cut kept stays states))) p) same
    (Contains_map (moved stays change) (keys_of (cut kept stays states)) place (Contains_cut states kept stays place (inl le) there)))

pub has_high : (states : States) (kept stays : ℕ) (change : LengthChange) (place : ℕ) → stays ≤ place
    → Contains (keys_of states) place → Contains (keys_of (shifted stays change (cut kept stays states))) (changed change place)
has_high states kept stays change place ge there =
    let same : moved stays change place ≡ changed change place = rw (le-ltb place stays ge) refl in
    rw (keys_shifted stays change (cut kept stays states))
    (subst (λ (p : ℕ). Contains (map (moved stays change) (keys_of (cut kept stays states))) p) same
    (Contains_map (moved stays change) (keys_of (cut kept stays states)) place (Contains_cut states kept stays place (inr ge) there)))

pub has_put : (made states : States) (place : ℕ) → Contains (keys_of states) place → Contains (keys_of (put_all made states)) place
has_put [] states place there = there
has_put (e ∷ made) states place there = has_put made (insert_entry nat_cmp states e.0 e.1) place (Contains_put states e.0 e.1 place there)

pub has_made : (made states : States) (place : ℕ) → Contains (keys_of made) place → Contains (keys_of (put_all made states)) place
has_made [] states place there = absurd (omega (arith, there.1))
has_made (e ∷ made) states place there = elim (Contains_cases e.0 (keys_of made) place there) [
  | inl same ↦
      has_put made (insert_entry nat_cmp states e.0 e.1) place
      (subst (λ (p : ℕ). Contains (keys_of (insert_entry nat_cmp states e.0 e.1)) p) same (Contains_put_new states e.0 e.1))
  | inr rest ↦ has_made made (insert_entry nat_cmp states e.0 e.1) place rest
]

-- the last of a list that is put from its end is the first of what was turned round
pub put_last : (rest : States) (e : ℕ × FoldState) (states : States)
    → put_all (reverse (rest ++ e ∷ [])) states ≡ put_all (reverse rest) (insert_entry nat_cmp states e.0 e.1)
put_last rest e states = ap (λ (made : States). put_all made states) (reverse-append rest (e ∷ []))

spare_either : (there : Bool) (spare n : ℕ) → n + 1 ≤ spare → n ≤ (if there then spare else spare - 1)
spare_either true spare n le = omega (arith, le)
spare_either false spare n le = omega (arith, le)

-- a put takes up room for one at most
pub spare_left : (stored : Stored FoldState) (place n : ℕ) → n + 1 ≤ stored.spare → n ≤ spare_after_put stored place
spare_left stored place n le = spare_either (is_some (lookup (nat_eq place) stored.states)) stored.spare n le
