-- Look-ups by number in what is kept.
use Rattle.std.proofs.Common.{◌≡◌, refl, ap, sym, ◌∙◌, ℕ, zero, suc, List, [], ◌∷◌, ◌++◌, length, get_or, Option, None, Some, arith, rules, inl, inr, map, subst, Contains, IsSome, ◌<◌}
use Rattle.std.proofs.lemmas.List.{length-map, get_or_default}
use Rattle.decode_jobs.specs.Trees.{Tree}
use Rattle.decode_jobs.specs.Nodes.{NodeOf}
use Rattle.decode_jobs.specs.KeyMaps.{tree_at, tree_of, AreLive, AreLiveBelow, IsNew, IsOneToOne, IsNodeOf, IsKeyMap}
use Rattle.decode_jobs.specs.Placed.{IsLeastUnused, IsPlace, IsUnused}
use Rattle.decode_jobs.specs.Indexed.{at}
use Rattle.decode_jobs.specs.Interning.{IsInterned}
use Rattle.decode_jobs.specs.Built.{Slot, grown_by, IsNext, StandsAt, AreKept, IsNoneFrom, IsFound}
use Rattle.decode_jobs.proofs.Building.{slot_row, row_slot, IsRow, tree_same, grown_one, none_one, grown_map, grown_snoc, next_snoc, at_added}

module _ {W : Type 0} where
  number_at : (slots : List (Slot W)) (place : ℕ) (slot : Slot W) → StandsAt slots place slot
      → get_or (map (λ (s : Slot W). s.0) slots) place 0 ≡ slot.0
  number_at [] place slot stands = absurd (omega (arith, stands.0))
  number_at (first ∷ slots) zero slot stands = ap (λ (s : Slot W). s.0) (sym stands.1)
  number_at (first ∷ slots) (suc place) slot stands = number_at slots place slot (omega (arith, stands.0), stands.1)

  fingerprint_at : (digest : NodeOf W → List ℕ) (slots : List (Slot W)) (place : ℕ) (slot : Slot W) → StandsAt slots place slot
      → at (map (λ (s : Slot W). digest s.1) slots) place ≡ digest slot.1
  fingerprint_at digest [] place slot stands = absurd (omega (arith, stands.0))
  fingerprint_at digest (first ∷ slots) zero slot stands = ap (λ (s : Slot W). digest s.1) (sym stands.1)
  fingerprint_at digest (first ∷ slots) (suc place) slot stands = fingerprint_at digest slots place slot (omega (arith, stands.0), stands.1)

  map-snoc : {A : Type 0} (f : Slot W → A) (slots : List (Slot W)) (slot : Slot W) → map f slots ++ f slot ∷ [] ≡ map f (slots ++ slot ∷ [])
  map-snoc f [] slot = refl
  map-snoc f (first ∷ slots) slot = ap (λ xs. f first ∷ xs) (map-snoc f slots slot)

  slot_of : (slots : List (Slot W)) (place : ℕ) → place < length slots → (slot : Slot W) × (slot ≡ get_or slots place slot)
  slot_of [] place lt = absurd (omega (arith, lt))
  slot_of (slot ∷ slots) zero lt = (slot, refl)
  slot_of (slot ∷ slots) (suc place) lt = slot_of slots place (omega (arith, lt))

  same_node : (a b : NodeOf W) → a.content ≡ b.content → a.entries ≡ b.entries → a ≡ b
  same_node a b p q = λ i. record { content = p i; entries = q i }

module _ {W : Type 0} (digest : NodeOf W → List ℕ) (slots : List (Slot W)) (numbers : List ℕ) (fingerprints : List (List ℕ))
    (kept : AreKept digest slots numbers fingerprints) where
  pub numbers_length : length numbers ≡ length slots
  numbers_length = ap length kept.numbered ∙ simp length-map

  pub fingerprints_length : length fingerprints ≡ length slots
  fingerprints_length = ap length kept.indexed ∙ simp length-map

  pub number_of : (place : ℕ) (slot : Slot W) → StandsAt slots place slot → get_or numbers place 0 ≡ slot.0
  number_of place slot stands = ap (λ ns. get_or ns place 0) kept.numbered ∙ number_at slots place slot stands

  -- a live number's node
  pub found_row : (number place : ℕ) (slot : Slot W) → IsPlace numbers number (Some place) → slot ≡ get_or slots place slot
      → IsNodeOf (grown_by [] slots) number slot.1
  found_row number place slot is e =
      let stands : StandsAt slots place slot = (omega (arith, is.0, numbers_length), e) in
      let row : IsRow (grown_by [] slots) slot = slot_row [] slots kept.built place slot stands in
      let n : number ≡ slot.0 = sym is.1 ∙ number_of place slot stands in
      record { tree = ap (tree_at (grown_by [] slots)) n ∙ row.tree; live = row.live }

  -- a live number has a tree
  live_row : (number : ℕ) → Contains numbers number → IsSome (tree_at (grown_by [] slots) number)
  live_row number there =
      let slot = slot_of slots there.0 (omega (arith, there.1, numbers_length)) in
      let row : IsNodeOf (grown_by [] slots) number slot.0.1 =
      found_row number there.0 slot.0 (there.1, get_or_default numbers there.0 0 number there.1 ∙ there.2) slot.1 in
      subst IsSome (sym row.tree) (search rules)

  pub live_below : (number : ℕ) → IsLeastUnused numbers number → AreLiveBelow (grown_by [] slots) number
  live_below number least below lt = live_row below (least.least below lt)

  none_of : (number : ℕ) → IsUnused numbers number → (o : Option (Tree W)) → o ≡ tree_at (grown_by [] slots) number → o ≡ None
  none_of number unused None is = refl
  none_of number unused (Some tree) is =
      elim (row_slot [] slots kept.built number tree (sym is)) [
        | inl old ↦ cc
        | inr found ↦ absurd (unused found.0 (omega (arith, found.2.0, numbers_length)) (number_of found.0 found.1 found.2 ∙ found.3))
      ]

  -- a number that is not live has no tree
  pub no_row : (number : ℕ) → IsUnused numbers number → tree_at (grown_by [] slots) number ≡ None
  no_row number unused = none_of number unused (tree_at (grown_by [] slots) number) refl

  -- no tree is under two numbers
  pub kept_one : IsOneToOne (grown_by [] slots)
  kept_one = grown_one [] slots none_one kept.built

  -- each number stands once, and has a tree of its own
  pub kept_map : IsKeyMap (grown_by [] slots)
  kept_map = grown_map slots kept.built

  -- a number that was found has the node's tree
  pub interned_found : (fingerprint : List ℕ) (node : NodeOf W) (number : ℕ) → IsFound slots fingerprints fingerprint node (Some number)
      → IsInterned (grown_by [] slots) (tree_of (grown_by [] slots) node) number (grown_by [] slots)
  interned_found fingerprint node number found =
      let row : IsRow (grown_by [] slots) found.1 = slot_row [] slots kept.built found.0 found.1 found.2 in
      let there : tree_at (grown_by [] slots) number ≡ Some (tree_of (grown_by [] slots) node) =
      ap (tree_at (grown_by [] slots)) (sym found.3) ∙ row.tree ∙ ap (λ n. Some (tree_of (grown_by [] slots) n)) found.4 in
      record {
        there = there;
        known = λ other e. refl;
        added = λ new. absurd (new number there);
      }

  -- a node that was not found has a new tree
  new_tree : (fingerprint : List ℕ) (node : NodeOf W) → AreLive (grown_by [] slots) node.entries → fingerprint ≡ digest node
      → IsNoneFrom slots fingerprints fingerprint node 0 → IsNew (grown_by [] slots) (tree_of (grown_by [] slots) node)
  new_tree fingerprint node live is none number e =
      elim (row_slot [] slots kept.built number (tree_of (grown_by [] slots) node) e) [
        | inl old ↦ cc
        | inr found ↦
            let row : IsRow (grown_by [] slots) found.1 = slot_row [] slots kept.built found.0 found.1 found.2 in
            let trees : Some (tree_of (grown_by [] slots) found.1.1) ≡ Some (tree_of (grown_by [] slots) node) =
            sym row.tree ∙ ap (tree_at (grown_by [] slots)) found.3 ∙ e in
            let same : tree_of (grown_by [] slots) found.1.1 ≡ tree_of (grown_by [] slots) node = cc in
            let parts : (found.1.1.content ≡ node.content) × (found.1.1.entries ≡ node.entries) =
            tree_same (grown_by [] slots) kept_one found.1.1.content node.content found.1.1.entries node.entries row.live live same in
            let nodes : found.1.1 ≡ node = same_node found.1.1 node parts.0 parts.1 in
            none found.0 found.1 (omega arith) found.2
            (ap (λ fs. at fs found.0) kept.indexed ∙ fingerprint_at digest slots found.0 found.1 found.2 ∙ ap digest nodes ∙ sym is)
            nodes
      ]

  module _ (fingerprint : List ℕ) (node : NodeOf W) (number : ℕ) (live : AreLive (grown_by [] slots) node.entries)
      (is : fingerprint ≡ digest node) (none : IsNoneFrom slots fingerprints fingerprint node 0) (unused : IsUnused numbers number) where
    next : IsNext (grown_by [] slots) (number, node)
    next = record { live = live; unused = no_row number unused; fresh = new_tree fingerprint node live is none }

    -- what is kept, with one slot more
    pub kept_more : AreKept digest (slots ++ (number, node) ∷ []) (numbers ++ number ∷ []) (fingerprints ++ fingerprint ∷ [])
    kept_more = record {
      built = next_snoc [] slots (number, node) kept.built next;
      numbered = ap (λ ns. ns ++ number ∷ []) kept.numbered ∙ map-snoc (λ (s : Slot W). s.0) slots (number, node);
      indexed = ap (λ fs. fs ++ fingerprint ∷ []) kept.indexed ∙ ap (λ f. map (λ (s : Slot W). digest s.1) slots ++ f ∷ []) is
          ∙ map-snoc (λ (s : Slot W). digest s.1) slots (number, node);
    }

    pub interned_added : IsInterned (grown_by [] slots) (tree_of (grown_by [] slots) node) number (grown_by [] (slots ++ (number, node) ∷ []))
    interned_added = rw (grown_snoc [] slots (number, node)) (record {
      there = at_added (grown_by [] slots) number (tree_of (grown_by [] slots) node) (no_row number unused);
      known = λ other e. absurd (new_tree fingerprint node live is none other e);
      added = λ new. (no_row number unused, refl);
    })
