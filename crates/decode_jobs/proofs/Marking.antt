-- What marks that are passed on have marked.
use Rattle.std.proofs.Common.{◌≡◌, refl, ap, sym, ◌∙◌, ℕ, zero, suc, ◌<◌, List, [], ◌∷◌, length, get_or, replicate, Bool, true, false, cond, Option, None, Some, IsSome, is_some, arith, subst, inl, inr, ◌⊎◌, length-set}
use Rattle.std.proofs.lemmas.List.{get_or-set_same, get_or-set_other}
use Rattle.std.proofs.lemmas.Bool.{cases_eq}
use Rattle.std.specs.List.{Contains}
use Rattle.decode_jobs.specs.Trees.{Tree}
use Rattle.decode_jobs.specs.KeyMaps.{KeyMap, tree_at, tree_of, AreLive}
use Rattle.decode_jobs.specs.Built.{Slot, grown, AreNext, StandsAt}
use Rattle.decode_jobs.specs.Marks.{is_marked, marked, all_marked, named_marked, passed_on, all_passed_on}
use Rattle.decode_jobs.proofs.Building.{all_live_stay, at_front, at_more, tree_of_live, some_live}

-- an entry names the number
abbrev pub Names : List (Option ℕ) → ℕ → Type 0
Names [] number = ⊥
Names (None ∷ entries) number = Names entries number
Names (Some other ∷ entries) number = (other ≡ number) ⊎ Names entries number

-- what the entries name is kept
abbrev pub AllKept : (ℕ → Bool) → List (Option ℕ) → Type 0
AllKept keep [] = Unit {0}
AllKept keep (None ∷ entries) = AllKept keep entries
AllKept keep (Some number ∷ entries) = (keep number ≡ true) × AllKept keep entries

marked_below : (marks : List Bool) (n : ℕ) → is_marked marks n ≡ true → n < length marks
marked_below [] n e = cc
marked_below (mark ∷ marks) zero e = omega arith
marked_below (mark ∷ marks) (suc n) e = let below : n < length marks = marked_below marks n e in omega arith

marked_same : (marks : List Bool) (k n : ℕ) → k ≡ n → n < length marks → is_marked (marked marks k) n ≡ true
marked_same marks k n e below = subst (λ m. is_marked (marked marks m) n ≡ true) (sym e) (get_or-set_same marks n true false below)

marked_stays : (marks : List Bool) (k n : ℕ) → is_marked marks n ≡ true → is_marked (marked marks k) n ≡ true
marked_stays marks k n e = elim (cases_eq k n) [
  | inl same ↦ marked_same marks k n same (marked_below marks n e)
  | inr other ↦ get_or-set_other marks k n true false (λ is. other (sym is)) ∙ e
]

marked_only : (marks : List Bool) (k n : ℕ) → is_marked (marked marks k) n ≡ true → (is_marked marks n ≡ true) ⊎ (k ≡ n)
marked_only marks k n e = elim (cases_eq k n) [
  | inl same ↦ inr same
  | inr other ↦ inl (sym (get_or-set_other marks k n true false (λ is. other (sym is))) ∙ e)
]

named_stays : (marks : List Bool) (entries : List (Option ℕ)) (n : ℕ) → is_marked marks n ≡ true → is_marked (named_marked marks entries) n ≡ true
named_stays marks [] n e = e
named_stays marks (None ∷ entries) n e = named_stays marks entries n e
named_stays marks (Some k ∷ entries) n e = named_stays (marked marks k) entries n (marked_stays marks k n e)

named_length : (marks : List Bool) (entries : List (Option ℕ)) → length (named_marked marks entries) ≡ length marks
named_length marks [] = refl
named_length marks (None ∷ entries) = named_length marks entries
named_length marks (Some k ∷ entries) = named_length (marked marks k) entries ∙ length-set marks k true

named_only : (marks : List Bool) (entries : List (Option ℕ)) (n : ℕ) → is_marked (named_marked marks entries) n ≡ true
    → (is_marked marks n ≡ true) ⊎ Names entries n
named_only marks [] n e = inl e
named_only marks (None ∷ entries) n e = named_only marks entries n e
named_only marks (Some k ∷ entries) n e = elim (named_only (marked marks k) entries n e) [
  | inl before ↦ elim (marked_only marks k n before) [ inl old ↦ inl old | inr same ↦ inr (inl same) ]
  | inr named ↦ inr (inr named)
]

-- what the entries name is marked
named_in : (marks : List Bool) (entries : List (Option ℕ)) → ((n : ℕ) → Names entries n → n < length marks)
    → AllKept (is_marked (named_marked marks entries)) entries
named_in marks [] below = tt
named_in marks (None ∷ entries) below = named_in marks entries below
named_in marks (Some k ∷ entries) below = (
  named_stays (marked marks k) entries k (marked_same marks k k refl (below k (inl refl))),
  named_in (marked marks k) entries (λ n named. let lt : n < length marks = below n (inr named) in omega (arith, length-set marks k true)),
)

kept_stays : (keep more : ℕ → Bool) → ((n : ℕ) → keep n ≡ true → more n ≡ true) → (entries : List (Option ℕ)) → AllKept keep entries → AllKept more entries
kept_stays keep more stays [] kept = tt
kept_stays keep more stays (None ∷ entries) kept = kept_stays keep more stays entries kept
kept_stays keep more stays (Some k ∷ entries) kept = (stays k kept.0, kept_stays keep more stays entries kept.1)

-- each number that a root has is marked
roots_stay : (marks : List Bool) (roots : List ℕ) (n : ℕ) → is_marked marks n ≡ true → is_marked (all_marked marks roots) n ≡ true
roots_stay marks [] n e = e
roots_stay marks (root ∷ roots) n e = roots_stay (marked marks root) roots n (marked_stays marks root n e)

roots_in_at : (marks : List Bool) (roots : List ℕ) (k n : ℕ) → k < length roots → get_or roots k n ≡ n → n < length marks
    → is_marked (all_marked marks roots) n ≡ true
roots_in_at marks [] k n lt e below = absurd (omega arith)
roots_in_at marks (root ∷ roots) zero n lt e below = roots_stay (marked marks root) roots n (marked_same marks root n e below)
roots_in_at marks (root ∷ roots) (suc k) n lt e below =
    roots_in_at (marked marks root) roots k n (omega arith) e (omega (arith, length-set marks root true))

pub roots_in : (marks : List Bool) (roots : List ℕ) (n : ℕ) → Contains roots n → n < length marks → is_marked (all_marked marks roots) n ≡ true
roots_in marks roots n among below = roots_in_at marks roots among.0 n among.1 among.2 below

contains_more : (root : ℕ) (roots : List ℕ) (n : ℕ) → Contains roots n → Contains (root ∷ roots) n
contains_more root roots n among = (suc among.0, omega (arith, among.1), among.2)

pub roots_only : (marks : List Bool) (roots : List ℕ) (n : ℕ) → is_marked (all_marked marks roots) n ≡ true
    → (is_marked marks n ≡ true) ⊎ Contains roots n
roots_only marks [] n e = inl e
roots_only marks (root ∷ roots) n e = elim (roots_only (marked marks root) roots n e) [
  | inl before ↦ elim (marked_only marks root n before) [
    | inl old ↦ inl old
    | inr same ↦ inr (0, omega arith, same)
  ]
  | inr among ↦ inr (contains_more root roots n among)
]

pub roots_length : (marks : List Bool) (roots : List ℕ) → length (all_marked marks roots) ≡ length marks
roots_length marks [] = refl
roots_length marks (root ∷ roots) = roots_length (marked marks root) roots ∙ length-set marks root true

pub none_marked : (bound n : ℕ) → is_marked (replicate bound false) n ≡ false
none_marked zero n = refl
none_marked (suc bound) zero = refl
none_marked (suc bound) (suc n) = none_marked bound n

passed_cases : (b : Bool) (marks : List Bool) (entries : List (Option ℕ)) (n : ℕ) → is_marked marks n ≡ true
    → is_marked (cond b (named_marked marks entries) marks) n ≡ true
passed_cases true marks entries n e = named_stays marks entries n e
passed_cases false marks entries n e = e

cond_length : (b : Bool) (marks : List Bool) (entries : List (Option ℕ)) → length (cond b (named_marked marks entries) marks) ≡ length marks
cond_length true marks entries = named_length marks entries
cond_length false marks entries = refl

module _ {W : Type 0} where
  -- each kept slot's entries are kept
  abbrev pub IsClosed : (ℕ → Bool) → List (Slot W) → Type 0
  IsClosed keep [] = Unit {0}
  IsClosed keep (slot ∷ slots) = (keep slot.0 ≡ true → AllKept keep slot.1.entries) × IsClosed keep slots

  passed_stays : (marks : List Bool) (slot : Slot W) (n : ℕ) → is_marked marks n ≡ true → is_marked (passed_on marks slot) n ≡ true
  passed_stays marks slot n e = passed_cases (is_marked marks slot.0) marks slot.1.entries n e

  pub all_passed_stay : (marks : List Bool) (slots : List (Slot W)) (n : ℕ) → is_marked marks n ≡ true → is_marked (all_passed_on marks slots) n ≡ true
  all_passed_stay marks [] n e = e
  all_passed_stay marks (slot ∷ slots) n e = passed_stays (all_passed_on marks slots) slot n (all_passed_stay marks slots n e)

  all_passed_length : (marks : List Bool) (slots : List (Slot W)) → length (all_passed_on marks slots) ≡ length marks
  all_passed_length marks [] = refl
  all_passed_length marks (slot ∷ slots) =
      cond_length (is_marked (all_passed_on marks slots) slot.0) (all_passed_on marks slots) slot.1.entries ∙ all_passed_length marks slots

  -- a number that is named by live entries is live
  named_live : (keys : KeyMap W) (entries : List (Option ℕ)) → AreLive keys entries → (n : ℕ) → Names entries n → IsSome (tree_at keys n)
  named_live keys [] live n named = absurd named
  named_live keys (None ∷ entries) live n named = named_live keys entries live.1 n named
  named_live keys (Some k ∷ entries) live n named = elim named [
    | inl same ↦ subst (λ m. IsSome (tree_at keys m)) same live.0
    | inr after ↦ named_live keys entries live.1 n after
  ]

  -- no slot's number is named
  abbrev NoneNamed : List (Option ℕ) → List (Slot W) → Type 0
  NoneNamed entries [] = Unit {0}
  NoneNamed entries (slot ∷ slots) = (Names entries slot.0 → ⊥) × NoneNamed entries slots

  some_none : (o : Option (Tree W)) → IsSome o → o ≡ None → ⊥
  some_none o is e = cc (ap is_some e)

  none_named : (keys : KeyMap W) (slots : List (Slot W)) → AreNext keys slots → (entries : List (Option ℕ)) → AreLive keys entries → NoneNamed entries slots
  none_named keys [] next entries live = tt
  none_named keys (slot ∷ slots) next entries live = (
    λ named. some_none (tree_at keys slot.0) (named_live keys entries live slot.0 named) next.0.unused,
    none_named (grown keys slot) slots next.1 entries
        (all_live_stay keys (grown keys slot) (at_front keys ((slot.0, tree_of keys slot.1) ∷ [])) entries live),
  )

  closed_named : (marks : List Bool) (entries : List (Option ℕ)) (slots : List (Slot W)) → NoneNamed entries slots
      → IsClosed (is_marked marks) slots → IsClosed (is_marked (named_marked marks entries)) slots
  closed_named marks entries [] none closed = tt
  closed_named marks entries (slot ∷ slots) none closed = (
    λ e. elim (named_only marks entries slot.0 e) [
      | inl before ↦ kept_stays (is_marked marks) (is_marked (named_marked marks entries)) (named_stays marks entries) slot.1.entries (closed.0 before)
      | inr named ↦ absurd (none.0 named)
    ],
    closed_named marks entries slots none.1 closed.1,
  )

  closed_cases : (b : Bool) (marks : List Bool) (slot : Slot W) (slots : List (Slot W)) → b ≡ is_marked marks slot.0
      → ((n : ℕ) → Names slot.1.entries n → n < length marks) → NoneNamed slot.1.entries slots → IsClosed (is_marked marks) slots
      → IsClosed (is_marked (cond b (named_marked marks slot.1.entries) marks)) (slot ∷ slots)
  closed_cases true marks slot slots is below none closed =
      (λ e. named_in marks slot.1.entries below, closed_named marks slot.1.entries slots none closed)
  closed_cases false marks slot slots is below none closed =
      (λ e. absurd (cc (is ∙ e)), closed)

  -- the marks that are passed on are closed
  pub passed_closed : (marks : List Bool) (keys : KeyMap W) (slots : List (Slot W)) → AreNext keys slots
      → ((n : ℕ) → IsSome (tree_at keys n) → n < length marks) → ((place : ℕ) (slot : Slot W) → StandsAt slots place slot → slot.0 < length marks)
      → IsClosed (is_marked (all_passed_on marks slots)) slots
  passed_closed marks keys [] next live below = tt
  passed_closed marks keys (slot ∷ slots) next live below =
      closed_cases (is_marked (all_passed_on marks slots) slot.0) (all_passed_on marks slots) slot slots refl
      (λ n named. let lt : n < length marks = live n (named_live keys slot.1.entries next.0.live n named) in
      omega (arith, all_passed_length marks slots))
      (none_named (grown keys slot) slots next.1 slot.1.entries
      (all_live_stay keys (grown keys slot) (at_front keys ((slot.0, tree_of keys slot.1) ∷ [])) slot.1.entries next.0.live))
      (passed_closed marks (grown keys slot) slots next.1
      (λ n is. let found : (tree : Tree W) × (tree_at (grown keys slot) n ≡ Some tree) = tree_of_live (tree_at (grown keys slot) n) is in
      elim (at_more keys slot.0 n (tree_of keys slot.1) found.0 found.1) [
        | inl old ↦ live n (some_live (tree_at keys n) found.0 old)
        | inr new ↦ let lt : slot.0 < length marks = below 0 slot (omega arith, refl) in let e : slot.0 ≡ n = new.0 in omega arith
      ])
      (λ place other stands. below (suc place) other (omega (arith, stands.0), stands.1)))

  -- what holds of each marked number, and of what each slot of which it holds names, holds of each number marked in the end
  abbrev Steps : (ℕ → Type 0) → List (Slot W) → Type 0
  Steps P [] = Unit {0}
  Steps P (slot ∷ slots) = (P slot.0 → (n : ℕ) → Names slot.1.entries n → P n) × Steps P slots

  steps_from : (P : ℕ → Type 0) (slots : List (Slot W))
      → ((place : ℕ) (slot : Slot W) → StandsAt slots place slot → P slot.0 → (n : ℕ) → Names slot.1.entries n → P n) → Steps P slots
  steps_from P [] each = tt
  steps_from P (slot ∷ slots) each =
      (each 0 slot (omega arith, refl), steps_from P slots (λ place other stands. each (suc place) other (omega (arith, stands.0), stands.1)))

  passed_cond : (b : Bool) (P : ℕ → Type 0) (marks : List Bool) (slot : Slot W) → b ≡ is_marked marks slot.0
      → ((n : ℕ) → is_marked marks n ≡ true → P n) → (P slot.0 → (n : ℕ) → Names slot.1.entries n → P n)
      → (n : ℕ) → is_marked (cond b (named_marked marks slot.1.entries) marks) n ≡ true → P n
  passed_cond true P marks slot is holds step n e = elim (named_only marks slot.1.entries n e) [
    | inl before ↦ holds n before
    | inr named ↦ step (holds slot.0 (sym is)) n named
  ]
  passed_cond false P marks slot is holds step n e = holds n e

  passed_hold : (P : ℕ → Type 0) (marks : List Bool) (slots : List (Slot W)) → ((n : ℕ) → is_marked marks n ≡ true → P n) → Steps P slots
      → (n : ℕ) → is_marked (all_passed_on marks slots) n ≡ true → P n
  passed_hold P marks [] holds steps n e = holds n e
  passed_hold P marks (slot ∷ slots) holds steps n e =
      passed_cond (is_marked (all_passed_on marks slots) slot.0) P (all_passed_on marks slots) slot refl (passed_hold P marks slots holds steps.1) steps.0 n e

  pub passed_only : (P : ℕ → Type 0) (marks : List Bool) (slots : List (Slot W)) → ((n : ℕ) → is_marked marks n ≡ true → P n)
      → ((place : ℕ) (slot : Slot W) → StandsAt slots place slot → P slot.0 → (n : ℕ) → Names slot.1.entries n → P n)
      → (n : ℕ) → is_marked (all_passed_on marks slots) n ≡ true → P n
  passed_only P marks slots holds each n e = passed_hold P marks slots holds (steps_from P slots each) n e

  pub closed_at : (keep : ℕ → Bool) (slots : List (Slot W)) → IsClosed keep slots → (place : ℕ) (slot : Slot W) → StandsAt slots place slot
      → keep slot.0 ≡ true → AllKept keep slot.1.entries
  closed_at keep [] closed place slot stands e = absurd (omega (arith, stands.0))
  closed_at keep (first ∷ slots) closed zero slot stands e =
      subst (λ (s : Slot W). AllKept keep s.1.entries) (sym stands.1) (closed.0 (sym (ap (λ (s : Slot W). keep s.0) stands.1) ∙ e))
  closed_at keep (first ∷ slots) closed (suc place) slot stands e = closed_at keep slots closed.1 place slot (omega (arith, stands.0), stands.1) e
