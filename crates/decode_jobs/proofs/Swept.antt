-- What a sweep leaves: the roots and all below them.
use Rattle.std.proofs.Common.{◌≡◌, refl, ap, sym, ◌∙◌, ℕ, ◌<◌, List, [], ◌∷◌, length, get_or, replicate, Bool, true, false, Option, None, Some, arith, subst, inl, inr, map}
use Rattle.std.proofs.lemmas.List.{length-replicate}
use Rattle.std.specs.Prelude.{slice_index}
use Rattle.std.specs.List.{filter}
use Rattle.decode_jobs.specs.Trees.{Tree}
use Rattle.decode_jobs.specs.Trees.Tree.{Bare, Gap, With}
use Rattle.decode_jobs.specs.Nodes.{NodeOf}
use Rattle.decode_jobs.specs.KeyMaps.{KeyMap, tree_at, entered, tree_from, tree_of, IsOneToOne}
use Rattle.decode_jobs.specs.Built.{Slot, grown_by, StandsAt, AreKept}
use Rattle.decode_jobs.specs.Marks.{is_marked, all_marked, all_passed_on}
use Rattle.decode_jobs.specs.Sweeping.{IsBelow, IsNeeded, IsSwept}
use Rattle.decode_jobs.proofs.Building.{slot_row, row_slot, IsRow}
use Rattle.decode_jobs.proofs.Kept.{number_of, numbers_length, kept_one}
use Rattle.decode_jobs.proofs.Marking.{Names, AllKept, IsClosed, roots_in, roots_only, roots_length, none_marked, all_passed_stay, passed_closed, passed_only, closed_at}
use Rattle.decode_jobs.proofs.Sweeping.{kept_pairs, kept_slots, at_kept, kept_at, grown_by_kept, nexts_kept, numbers_kept}

module _ {W : Type 0} where
  entered_below : (o : Option (Tree W)) (tree rest : Tree W) → IsBelow tree rest → IsBelow tree (entered o rest)
  entered_below None tree rest below = below
  entered_below (Some first) tree rest below = inr (inr below)

  entered_first : (o : Option (Tree W)) (tree rest : Tree W) → o ≡ Some tree → IsBelow tree (entered o rest)
  entered_first None tree rest e = cc
  entered_first (Some first) tree rest e = inl (cc)

  -- what an entry names is below the tree
  entry_below : (keys : KeyMap W) (content : W) (entries : List (Option ℕ)) (n : ℕ) (tree : Tree W) → Names entries n
      → tree_at keys n ≡ Some tree → IsBelow tree (tree_from keys content entries)
  entry_below keys content [] n tree named e = absurd named
  entry_below keys content (None ∷ entries) n tree named e = entry_below keys content entries n tree named e
  entry_below keys content (Some k ∷ entries) n tree named e = elim named [
    | inl same ↦ entered_first (tree_at keys k) tree (tree_from keys content entries) (ap (tree_at keys) same ∙ e)
    | inr after ↦ entered_below (tree_at keys k) tree (tree_from keys content entries) (entry_below keys content entries n tree after e)
  ]

  below_trans : (a b c : Tree W) → IsBelow a b → IsBelow b c → IsBelow a c
  below_trans a b (Bare content) ab bc = absurd bc
  below_trans a b (Gap rest) ab bc = below_trans a b rest ab bc
  below_trans a b (With first rest) ab bc = elim bc [
    | inl same ↦ inr (inl (subst (IsBelow a) same ab))
    | inr more ↦ elim more [
      | inl under ↦ inr (inl (below_trans a b first ab under))
      | inr after ↦ inr (inr (below_trans a b rest ab after))
    ]
  ]

  same_some : (a b : Tree W) → Some a ≡ Some b → a ≡ b
  same_some a b e = cc

module _ {W : Type 0} (digest : NodeOf W → List ℕ) (slots : List (Slot W)) (numbers : List ℕ) (fingerprints : List (List ℕ))
    (kept : AreKept digest slots numbers fingerprints) (bound : ℕ)
    (above : (i : ℕ) → i < length numbers → slice_index numbers i < bound) (roots : List ℕ) where
  -- the map, the marks of the roots, and what is kept
  abbrev full : KeyMap W
  full = grown_by [] slots

  abbrev rooted : List Bool
  rooted = all_marked (replicate bound false) roots

  abbrev keep : ℕ → Bool
  keep = is_marked (all_passed_on rooted slots)

  rooted_length : length rooted ≡ bound
  rooted_length = roots_length (replicate bound false) roots ∙ length-replicate bound false

  slot_below : (place : ℕ) (slot : Slot W) → StandsAt slots place slot → slot.0 < bound
  slot_below place slot stands =
      let e : get_or numbers place 0 ≡ slot.0 = number_of digest slots numbers fingerprints kept place slot stands in
      let lt : get_or numbers place 0 < bound = above place (omega (arith, stands.0, numbers_length digest slots numbers fingerprints kept)) in
      omega arith

  closed : IsClosed keep slots
  closed = passed_closed rooted [] slots kept.built (λ n is. cc)
      (λ place slot stands. let lt : slot.0 < bound = slot_below place slot stands in omega (arith, rooted_length))

  one : IsOneToOne full
  one = kept_one digest slots numbers fingerprints kept

  -- each number that is kept is a root's or below one
  only : (n : ℕ) → keep n ≡ true → (tree : Tree W) → tree_at full n ≡ Some tree → IsNeeded full roots tree
  only = passed_only (λ n. (tree : Tree W) → tree_at full n ≡ Some tree → IsNeeded full roots tree) rooted slots
      (λ n is tree e. elim (roots_only (replicate bound false) roots n is) [
        | inl never ↦ absurd (cc (sym never ∙ none_marked bound n))
        | inr among ↦ record { root = n; among = among; top = tree; rooted = e; within = inl refl }
      ])
      (λ place slot stands needs n named tree e.
      let row : IsRow full slot = slot_row [] slots kept.built place slot stands in
      let need : IsNeeded full roots (tree_of full slot.1) = needs (tree_of full slot.1) row.tree in
      let below : IsBelow tree (tree_of full slot.1) = entry_below full slot.1.content slot.1.entries n tree named e in
      record {
        root = need.root;
        among = need.among;
        top = need.top;
        rooted = need.rooted;
        within = elim need.within [
          | inl same ↦ inr (subst (IsBelow tree) same below)
          | inr under ↦ inr (below_trans tree (tree_of full slot.1) need.top below under)
        ];
      })

  -- each entry of the tree is the tree of a number that is kept
  abbrev AllNamed : Tree W → Type 0
  AllNamed (Bare content) = Unit {0}
  AllNamed (Gap rest) = AllNamed rest
  AllNamed (With first rest) = ((k : ℕ) × (tree_at full k ≡ Some first) × (keep k ≡ true)) × AllNamed rest

  entered_all : (o : Option (Tree W)) (rest : Tree W)
      → ((first : Tree W) → o ≡ Some first → (k : ℕ) × (tree_at full k ≡ Some first) × (keep k ≡ true)) → AllNamed rest → AllNamed (entered o rest)
  entered_all None rest each all = all
  entered_all (Some first) rest each all = (each first refl, all)

  entries_all : (content : W) (entries : List (Option ℕ)) → AllKept keep entries → AllNamed (tree_from full content entries)
  entries_all content [] are = tt
  entries_all content (None ∷ entries) are = entries_all content entries are
  entries_all content (Some k ∷ entries) are =
      entered_all (tree_at full k) (tree_from full content entries) (λ first e. (k, e, are.0)) (entries_all content entries are.1)

  tree_all : (k : ℕ) (tree : Tree W) → tree_at full k ≡ Some tree → keep k ≡ true → AllNamed tree
  tree_all k tree e is = elim (row_slot [] slots kept.built k tree e) [
    | inl old ↦ cc
    | inr found ↦
        let row : IsRow full found.1 = slot_row [] slots kept.built found.0 found.1 found.2 in
        let same : tree_of full found.1.1 ≡ tree = same_some (tree_of full found.1.1) tree (sym row.tree ∙ ap (tree_at full) found.3 ∙ e) in
        subst AllNamed same (entries_all found.1.1.content found.1.1.entries (closed_at keep slots closed found.0 found.1 found.2 (ap keep found.3 ∙ is)))
  ]

  down : (top tree : Tree W) (n : ℕ) → AllNamed top → IsBelow tree top → tree_at full n ≡ Some tree → keep n ≡ true
  down (Bare content) tree n all below e = absurd below
  down (Gap rest) tree n all below e = down rest tree n all below e
  down (With first rest) tree n all below e = elim below [
    | inl same ↦ ap keep (one n all.0.0 tree e (all.0.1 ∙ ap Some (sym same))) ∙ all.0.2
    | inr more ↦ elim more [
      | inl under ↦ down first tree n (tree_all all.0.0 first all.0.1 all.0.2) under e
      | inr after ↦ down rest tree n all.1 after e
    ]
  ]

  root_below : (n : ℕ) (tree : Tree W) → tree_at full n ≡ Some tree → n < bound
  root_below n tree e = elim (row_slot [] slots kept.built n tree e) [
    | inl old ↦ cc
    | inr found ↦ let lt : found.1.0 < bound = slot_below found.0 found.1 found.2 in let same : found.1.0 ≡ n = found.3 in omega arith
  ]

  -- each number that is a root's or below one is kept
  needed_kept : (n : ℕ) (tree : Tree W) → tree_at full n ≡ Some tree → IsNeeded full roots tree → keep n ≡ true
  needed_kept n tree e need =
      let lt : need.root < bound = root_below need.root need.top need.rooted in
      let within : need.root < length (replicate bound false) = omega (arith, length-replicate bound false) in
      let is : keep need.root ≡ true = all_passed_stay rooted slots need.root (roots_in (replicate bound false) roots need.root need.among within) in
      elim need.within [
        | inl same ↦ ap keep (one n need.root tree e (need.rooted ∙ ap Some (sym same))) ∙ is
        | inr under ↦ down need.top tree n (tree_all need.root need.top need.rooted is) under e
      ]

  left_is : grown_by [] (kept_slots keep slots) ≡ kept_pairs keep full
  left_is = grown_by_kept keep [] slots closed

  pub swept_kept : AreKept digest (kept_slots keep slots) (filter keep numbers) (map (λ (s : Slot W). digest s.1) (kept_slots keep slots))
  swept_kept = record {
    built = nexts_kept keep [] slots closed kept.built;
    numbered = ap (filter keep) kept.numbered ∙ numbers_kept keep slots;
    indexed = refl;
  }

  pub swept : IsSwept full roots (grown_by [] (kept_slots keep slots))
  swept = record {
    kept = λ n tree e need. ap (λ (m : KeyMap W). tree_at m n) left_is ∙ at_kept keep full n (needed_kept n tree e need) ∙ e;
    only = λ n tree e.
        let left : tree_at (kept_pairs keep full) n ≡ Some tree = sym (ap (λ (m : KeyMap W). tree_at m n) left_is) ∙ e in
        let is : keep n ≡ true = kept_at keep full n tree left in
        let old : tree_at full n ≡ Some tree = sym (at_kept keep full n is) ∙ left in
        (old, only n is tree old);
    pairs = (keep, left_is);
  }
