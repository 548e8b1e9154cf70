-- What is left where slots are kept whose entries are kept.
use Rattle.std.proofs.Common.{◌≡◌, refl, ap, sym, ◌∙◌, ℕ, ◌==◌, List, [], ◌∷◌, ◌++◌, Bool, true, false, cond, Option, None, Some, subst, inl, inr, map, append-nil}
use Rattle.std.proofs.lemmas.Bool.{eqb-true, cases_Bool}
use Rattle.std.proofs.lemmas.List.Elements.{filter-append}
use Rattle.std.specs.List.{filter}
use Rattle.decode_jobs.specs.Trees.{Tree}
use Rattle.decode_jobs.specs.Trees.Tree.{Gap}
use Rattle.decode_jobs.specs.KeyMaps.{KeyMap, tree_at, tree_from, tree_of, AreLive}
use Rattle.decode_jobs.specs.Built.{Slot, grown, grown_by, IsNext, AreNext}
use Rattle.decode_jobs.proofs.Marking.{AllKept, IsClosed}

module _ {W : Type 0} (keep : ℕ → Bool) where
  -- the pairs of the numbers that are kept
  abbrev pub kept_pairs : KeyMap W → KeyMap W
  kept_pairs keys = filter (λ pair. keep pair.0) keys

  -- the slots of the numbers that are kept
  abbrev pub kept_slots : List (Slot W) → List (Slot W)
  kept_slots slots = filter (λ slot. keep slot.0) slots

  at_cond : (k : Bool) (pair : ℕ × Tree W) (left keys : KeyMap W) (n : ℕ) → (pair.0 ≡ n → k ≡ true) → tree_at left n ≡ tree_at keys n
      → tree_at (cond k (pair ∷ left) left) n ≡ tree_at (pair ∷ keys) n
  at_cond true pair left keys n kept same = ap (cond (pair.0 == n) (Some pair.1)) same
  at_cond false pair left keys n kept same = elim (cases_Bool (pair.0 == n)) [
    | inl is ↦ absurd (cc (kept (eqb-true pair.0 n is)))
    | inr is ↦ same ∙ sym (ap (λ b. cond b (Some pair.1) (tree_at keys n)) is)
  ]

  -- a kept number has the tree that it had
  pub at_kept : (keys : KeyMap W) (n : ℕ) → keep n ≡ true → tree_at (kept_pairs keys) n ≡ tree_at keys n
  at_kept [] n e = refl
  at_kept (pair ∷ keys) n e =
      at_cond (keep pair.0) pair (kept_pairs keys) keys n (λ same. ap keep same ∙ e) (at_kept keys n e)

  kept_cond : (k : Bool) (pair : ℕ × Tree W) (left : KeyMap W) (n : ℕ) (tree : Tree W) → k ≡ keep pair.0
      → (tree_at left n ≡ Some tree → keep n ≡ true) → tree_at (cond k (pair ∷ left) left) n ≡ Some tree → keep n ≡ true
  kept_cond true pair left n tree is before e = elim (cases_Bool (pair.0 == n)) [
    | inl same ↦ ap keep (sym (eqb-true pair.0 n same)) ∙ sym is
    | inr other ↦ before (sym (ap (λ b. cond b (Some pair.1) (tree_at left n)) other) ∙ e)
  ]
  kept_cond false pair left n tree is before e = before e

  -- a number that has a tree is kept
  pub kept_at : (keys : KeyMap W) (n : ℕ) (tree : Tree W) → tree_at (kept_pairs keys) n ≡ Some tree → keep n ≡ true
  kept_at [] n tree e = cc
  kept_at (pair ∷ keys) n tree e = kept_cond (keep pair.0) pair (kept_pairs keys) n tree refl (kept_at keys n tree) e

  tree_kept : (keys : KeyMap W) (content : W) (entries : List (Option ℕ)) → AllKept keep entries
      → tree_from (kept_pairs keys) content entries ≡ tree_from keys content entries
  tree_kept keys content [] kept = refl
  tree_kept keys content (None ∷ entries) kept = ap Gap (tree_kept keys content entries kept)
  tree_kept keys content (Some n ∷ entries) kept =
      let a : tree_at (kept_pairs keys) n ≡ tree_at keys n = at_kept keys n kept.0 in
      let b : tree_from (kept_pairs keys) content entries ≡ tree_from keys content entries = tree_kept keys content entries kept.1 in
      cc

  live_kept : (keys : KeyMap W) (entries : List (Option ℕ)) → AllKept keep entries → AreLive keys entries → AreLive (kept_pairs keys) entries
  live_kept keys [] kept live = tt
  live_kept keys (None ∷ entries) kept live = (tt, live_kept keys entries kept live.1)
  live_kept keys (Some n ∷ entries) kept live =
      (rw (at_kept keys n kept.0) live.0, live_kept keys entries kept.1 live.1)

  next_kept : (keys : KeyMap W) (slot : Slot W) → keep slot.0 ≡ true → AllKept keep slot.1.entries → IsNext keys slot → IsNext (kept_pairs keys) slot
  next_kept keys slot is kept next = record {
    live = live_kept keys slot.1.entries kept next.live;
    unused = at_kept keys slot.0 is ∙ next.unused;
    fresh = λ n e. next.fresh n
        (sym (at_kept keys n (kept_at keys n (tree_of (kept_pairs keys) slot.1) e)) ∙ e ∙ ap Some (tree_kept keys slot.1.content slot.1.entries kept));
  }

  grown_kept : (keys : KeyMap W) (slot : Slot W) → keep slot.0 ≡ true → AllKept keep slot.1.entries
      → grown (kept_pairs keys) slot ≡ kept_pairs (grown keys slot)
  grown_kept keys slot is kept =
      ap (λ t. kept_pairs keys ++ (slot.0, t) ∷ []) (tree_kept keys slot.1.content slot.1.entries kept)
      ∙ sym (ap (λ k. kept_pairs keys ++ cond k ((slot.0, tree_of keys slot.1) ∷ []) []) is)
      ∙ sym (filter-append (λ pair. keep pair.0) keys ((slot.0, tree_of keys slot.1) ∷ []))

  grown_left : (keys : KeyMap W) (slot : Slot W) → keep slot.0 ≡ false → kept_pairs keys ≡ kept_pairs (grown keys slot)
  grown_left keys slot is =
      sym (append-nil (kept_pairs keys))
      ∙ sym (ap (λ k. kept_pairs keys ++ cond k ((slot.0, tree_of keys slot.1) ∷ []) []) is)
      ∙ sym (filter-append (λ pair. keep pair.0) keys ((slot.0, tree_of keys slot.1) ∷ []))

  by_cond : (k : Bool) (keys : KeyMap W) (slot : Slot W) (slots : List (Slot W)) → k ≡ keep slot.0
      → (keep slot.0 ≡ true → AllKept keep slot.1.entries)
      → grown_by (kept_pairs (grown keys slot)) (kept_slots slots) ≡ kept_pairs (grown_by (grown keys slot) slots)
      → grown_by (kept_pairs keys) (cond k (slot ∷ kept_slots slots) (kept_slots slots)) ≡ kept_pairs (grown_by (grown keys slot) slots)
  by_cond true keys slot slots is closed after =
      ap (λ (m : KeyMap W). grown_by m (kept_slots slots)) (grown_kept keys slot (sym is) (closed (sym is))) ∙ after
  by_cond false keys slot slots is closed after =
      ap (λ (m : KeyMap W). grown_by m (kept_slots slots)) (grown_left keys slot (sym is)) ∙ after

  -- the map of the kept slots has the kept pairs
  pub grown_by_kept : (keys : KeyMap W) (slots : List (Slot W)) → IsClosed keep slots
      → grown_by (kept_pairs keys) (kept_slots slots) ≡ kept_pairs (grown_by keys slots)
  grown_by_kept keys [] closed = refl
  grown_by_kept keys (slot ∷ slots) closed =
      by_cond (keep slot.0) keys slot slots refl closed.0 (grown_by_kept (grown keys slot) slots closed.1)

  nexts_cond : (k : Bool) (keys : KeyMap W) (slot : Slot W) (slots : List (Slot W)) → k ≡ keep slot.0
      → (keep slot.0 ≡ true → AllKept keep slot.1.entries) → IsNext keys slot → AreNext (kept_pairs (grown keys slot)) (kept_slots slots)
      → AreNext (kept_pairs keys) (cond k (slot ∷ kept_slots slots) (kept_slots slots))
  nexts_cond true keys slot slots is closed next after = (
    next_kept keys slot (sym is) (closed (sym is)) next,
    subst (λ (m : KeyMap W). AreNext m (kept_slots slots)) (sym (grown_kept keys slot (sym is) (closed (sym is)))) after,
  )
  nexts_cond false keys slot slots is closed next after =
      subst (λ (m : KeyMap W). AreNext m (kept_slots slots)) (sym (grown_left keys slot (sym is))) after

  -- each of the kept slots may come next
  pub nexts_kept : (keys : KeyMap W) (slots : List (Slot W)) → IsClosed keep slots → AreNext keys slots → AreNext (kept_pairs keys) (kept_slots slots)
  nexts_kept keys [] closed next = tt
  nexts_kept keys (slot ∷ slots) closed next =
      nexts_cond (keep slot.0) keys slot slots refl closed.0 next.0 (nexts_kept (grown keys slot) slots closed.1 next.1)

  numbers_cond : (k : Bool) (slot : Slot W) (left : List (Slot W)) (numbers : List ℕ) → numbers ≡ map (λ (s : Slot W). s.0) left
      → cond k (slot.0 ∷ numbers) numbers ≡ map (λ (s : Slot W). s.0) (cond k (slot ∷ left) left)
  numbers_cond true slot left numbers e = ap (λ ns. slot.0 ∷ ns) e
  numbers_cond false slot left numbers e = e

  -- the kept numbers are those of the kept slots
  pub numbers_kept : (slots : List (Slot W)) → filter keep (map (λ (s : Slot W). s.0) slots) ≡ map (λ (s : Slot W). s.0) (kept_slots slots)
  numbers_kept [] = refl
  numbers_kept (slot ∷ slots) = numbers_cond (keep slot.0) slot (kept_slots slots) (filter keep (map (λ (s : Slot W). s.0) slots)) (numbers_kept slots)
