-- What holds of a map that is built of slots.
use Rattle.std.proofs.Common.{◌≡◌, refl, ap, sym, ◌∙◌, ℕ, zero, suc, ◌+◌, ◌==◌, List, [], ◌∷◌, ◌++◌, length, Bool, true, false, cond, Option, None, Some, IsSome, is_some, arith, subst, inl, inr, ◌⊎◌, add-zero, length-append}
use Rattle.std.proofs.lemmas.Bool.{eqb-true, eq-eqb, cases_Bool}
use Rattle.decode_jobs.specs.Trees.{Tree}
use Rattle.decode_jobs.specs.Trees.Tree.{With}
use Rattle.decode_jobs.specs.KeyMaps.{KeyMap, tree_at, named, entered, tree_from, tree_of, IsLive, AreLive, IsOneToOne, IsNodeOf, Extends, NumbersDiffer, IsKeyMap}
use Rattle.decode_jobs.specs.Built.{Slot, grown, grown_by, IsNext, AreNext, StandsAt}

module _ {W : Type 0} where
  cond_front : (b : Bool) (first : Tree W) (x y : Option (Tree W)) (tree : Tree W)
      → (x ≡ Some tree → y ≡ Some tree) → cond b (Some first) x ≡ Some tree → cond b (Some first) y ≡ Some tree
  cond_front true first x y tree f e = e
  cond_front false first x y tree f e = f e

  pub at_front : (keys after : KeyMap W) → Extends keys (keys ++ after)
  at_front [] after number tree e = cc
  at_front (pair ∷ keys) after number tree e =
      cond_front (pair.0 == number) pair.1 (tree_at keys number) (tree_at (keys ++ after) number) tree (at_front keys after number tree) e

  cond_none : (b : Bool) (first : Tree W) (x y z : Option (Tree W)) → (x ≡ None → y ≡ z)
      → cond b (Some first) x ≡ None → cond b (Some first) y ≡ z
  cond_none true first x y z f e = cc
  cond_none false first x y z f e = f e

  pub at_back : (keys after : KeyMap W) (number : ℕ) → tree_at keys number ≡ None → tree_at (keys ++ after) number ≡ tree_at after number
  at_back [] after number e = refl
  at_back (pair ∷ keys) after number e =
      cond_none (pair.0 == number) pair.1 (tree_at keys number) (tree_at (keys ++ after) number) (tree_at after number) (at_back keys after number) e

  cond_one : (b : Bool) (n number : ℕ) (first tree : Tree W) → b ≡ (n == number) → cond b (Some first) None ≡ Some tree → (n ≡ number) × (first ≡ tree)
  cond_one true n number first tree is e = (eqb-true n number (sym is), cc)
  cond_one false n number first tree is e = cc

  more_of : (o : Option (Tree W)) (keys : KeyMap W) (n number : ℕ) (first tree : Tree W) → o ≡ tree_at keys number
      → tree_at (keys ++ (n, first) ∷ []) number ≡ Some tree
      → (tree_at keys number ≡ Some tree) ⊎ ((n ≡ number) × (first ≡ tree))
  more_of None keys n number first tree is e =
      inr (cond_one (n == number) n number first tree refl (sym (at_back keys ((n, first) ∷ []) number (sym is)) ∙ e))
  more_of (Some other) keys n number first tree is e =
      let front : tree_at (keys ++ (n, first) ∷ []) number ≡ Some other = at_front keys ((n, first) ∷ []) number other (sym is) in
      inl (cc)

  -- a pair of a map with one pair more
  pub at_more : (keys : KeyMap W) (n number : ℕ) (first tree : Tree W) → tree_at (keys ++ (n, first) ∷ []) number ≡ Some tree
      → (tree_at keys number ≡ Some tree) ⊎ ((n ≡ number) × (first ≡ tree))
  at_more keys n number first tree e = more_of (tree_at keys number) keys n number first tree refl e

  pub at_added : (keys : KeyMap W) (n : ℕ) (tree : Tree W) → tree_at keys n ≡ None → tree_at (keys ++ (n, tree) ∷ []) n ≡ Some tree
  at_added keys n tree e = at_back keys ((n, tree) ∷ []) n e ∙ ap (λ b. cond b (Some tree) None) (eq-eqb n n refl)

  -- a live number has a tree
  pub tree_of_live : (o : Option (Tree W)) → IsSome o → (tree : Tree W) × (o ≡ Some tree)
  tree_of_live None live = cc
  tree_of_live (Some tree) live = (tree, refl)

  pub some_live : (o : Option (Tree W)) (tree : Tree W) → o ≡ Some tree → IsSome o
  some_live o tree e = ap is_some e

  live_stays : (keys more : KeyMap W) → Extends keys more → (entry : Option ℕ) → IsLive keys entry → IsLive more entry
  live_stays keys more extends None live = tt
  live_stays keys more extends (Some number) live =
      let found : (tree : Tree W) × (tree_at keys number ≡ Some tree) = tree_of_live (tree_at keys number) live in
      some_live (tree_at more number) found.0 (extends number found.0 found.1)

  pub all_live_stay : (keys more : KeyMap W) → Extends keys more → (entries : List (Option ℕ)) → AreLive keys entries → AreLive more entries
  all_live_stay keys more extends [] live = tt
  all_live_stay keys more extends (entry ∷ entries) live =
      (live_stays keys more extends entry live.0, all_live_stay keys more extends entries live.1)

  named_stays : (keys more : KeyMap W) → Extends keys more → (entry : Option ℕ) → IsLive keys entry → named more entry ≡ named keys entry
  named_stays keys more extends None live = refl
  named_stays keys more extends (Some number) live =
      let found : (tree : Tree W) × (tree_at keys number ≡ Some tree) = tree_of_live (tree_at keys number) live in
      extends number found.0 found.1 ∙ sym found.1

  -- the tree of entries that are live stays
  pub tree_stays : (keys more : KeyMap W) → Extends keys more → (content : W) (entries : List (Option ℕ)) → AreLive keys entries
      → tree_from more content entries ≡ tree_from keys content entries
  tree_stays keys more extends content [] live = refl
  tree_stays keys more extends content (entry ∷ entries) live =
      let a : named more entry ≡ named keys entry = named_stays keys more extends entry live.0 in
      let b : tree_from more content entries ≡ tree_from keys content entries = tree_stays keys more extends content entries live.1 in
      cc

  entered_same : (a b : Option (Tree W)) (s t : Tree W) → entered a s ≡ entered b t → (a ≡ b) × (s ≡ t)
  entered_same None None s t e = (refl, cc)
  entered_same None (Some y) s t e = cc
  entered_same (Some x) None s t e = cc
  entered_same (Some x) (Some y) s t e = (cc, cc)

  entry_same : (keys : KeyMap W) → IsOneToOne keys → (a b : Option ℕ) → IsLive keys a → IsLive keys b → named keys a ≡ named keys b → a ≡ b
  entry_same keys one None None live also e = refl
  entry_same keys one None (Some m) live also e =
      let found : (tree : Tree W) × (tree_at keys m ≡ Some tree) = tree_of_live (tree_at keys m) also in cc
  entry_same keys one (Some n) None live also e =
      let found : (tree : Tree W) × (tree_at keys n ≡ Some tree) = tree_of_live (tree_at keys n) live in cc
  entry_same keys one (Some n) (Some m) live also e =
      let found : (tree : Tree W) × (tree_at keys n ≡ Some tree) = tree_of_live (tree_at keys n) live in
      ap Some (one n m found.0 found.1 (sym e ∙ found.1))

  -- equal trees of live entries have equal work and equal entries
  pub tree_same : (keys : KeyMap W) → IsOneToOne keys → (v w : W) (a b : List (Option ℕ)) → AreLive keys a → AreLive keys b
      → tree_from keys v a ≡ tree_from keys w b → (v ≡ w) × (a ≡ b)
  tree_same keys one v w [] [] live also e = (cc, refl)
  tree_same keys one v w [] (None ∷ b) live also e = cc
  tree_same keys one v w [] (Some m ∷ b) live also e =
      let found : (tree : Tree W) × (tree_at keys m ≡ Some tree) = tree_of_live (tree_at keys m) also.0 in
      let f : entered (tree_at keys m) (tree_from keys w b) ≡ With found.0 (tree_from keys w b) = ap (λ o. entered o (tree_from keys w b)) found.1 in
      cc
  tree_same keys one v w (None ∷ a) [] live also e = cc
  tree_same keys one v w (Some n ∷ a) [] live also e =
      let found : (tree : Tree W) × (tree_at keys n ≡ Some tree) = tree_of_live (tree_at keys n) live.0 in
      let f : entered (tree_at keys n) (tree_from keys v a) ≡ With found.0 (tree_from keys v a) = ap (λ o. entered o (tree_from keys v a)) found.1 in
      cc
  tree_same keys one v w (x ∷ a) (y ∷ b) live also e =
      let parts : (named keys x ≡ named keys y) × (tree_from keys v a ≡ tree_from keys w b) =
      entered_same (named keys x) (named keys y) (tree_from keys v a) (tree_from keys w b) e in
      let rest : (v ≡ w) × (a ≡ b) = tree_same keys one v w a b live.1 also.1 parts.1 in
      let first : x ≡ y = entry_same keys one x y live.0 also.0 parts.0 in
      (rest.0, cc)

  pub grown_extends : (keys : KeyMap W) (slots : List (Slot W)) → Extends keys (grown_by keys slots)
  grown_extends keys [] number tree e = e
  grown_extends keys (slot ∷ slots) number tree e =
      grown_extends (grown keys slot) slots number tree (at_front keys ((slot.0, tree_of keys slot.1) ∷ []) number tree e)

  one_more : (keys : KeyMap W) (slot : Slot W) → IsOneToOne keys → IsNext keys slot → IsOneToOne (grown keys slot)
  one_more keys slot one next a b tree at_a at_b =
      elim (at_more keys slot.0 a (tree_of keys slot.1) tree at_a) [
        | inl old_a ↦ elim (at_more keys slot.0 b (tree_of keys slot.1) tree at_b) [
          | inl old_b ↦ one a b tree old_a old_b
          | inr new_b ↦ absurd (next.fresh a (old_a ∙ ap Some (sym new_b.1)))
        ]
        | inr new_a ↦ elim (at_more keys slot.0 b (tree_of keys slot.1) tree at_b) [
          | inl old_b ↦ absurd (next.fresh b (old_b ∙ ap Some (sym new_a.1)))
          | inr new_b ↦ sym new_a.0 ∙ new_b.0
        ]
      ]

  -- no tree is under two numbers
  pub grown_one : (keys : KeyMap W) (slots : List (Slot W)) → IsOneToOne keys → AreNext keys slots → IsOneToOne (grown_by keys slots)
  grown_one keys [] one next = one
  grown_one keys (slot ∷ slots) one next = grown_one (grown keys slot) slots (one_more keys slot one next.0) next.1

  pub none_one : IsOneToOne {W = W} []
  none_one a b tree e f = cc

  absent_head : (b : Bool) (first : Tree W) (o : Option (Tree W)) → cond b (Some first) o ≡ None → (b ≡ false) × (o ≡ None)
  absent_head true first o e = cc
  absent_head false first o e = (refl, e)

  absent_last : (n number : ℕ) (tree : Tree W) → (number == n) ≡ false → tree_at ((n, tree) ∷ []) number ≡ None
  absent_last n number tree e = elim (cases_Bool (n == number)) [
    | inl same ↦ absurd (cc (sym e ∙ eq-eqb number n (sym (eqb-true n number same))))
    | inr other ↦ ap (λ b. cond b (Some tree) None) other
  ]

  one_number_more : (keys : KeyMap W) (n : ℕ) (tree : Tree W) → NumbersDiffer keys → tree_at keys n ≡ None → NumbersDiffer (keys ++ (n, tree) ∷ [])
  one_number_more [] n tree differ none = (refl, tt)
  one_number_more (pair ∷ keys) n tree differ none =
      let parts : ((pair.0 == n) ≡ false) × (tree_at keys n ≡ None) = absent_head (pair.0 == n) pair.1 (tree_at keys n) none in
      (at_back keys ((n, tree) ∷ []) pair.0 differ.0 ∙ absent_last n pair.0 tree parts.0, one_number_more keys n tree differ.1 parts.1)

  numbers_differ : (keys : KeyMap W) (slots : List (Slot W)) → NumbersDiffer keys → AreNext keys slots → NumbersDiffer (grown_by keys slots)
  numbers_differ keys [] differ next = differ
  numbers_differ keys (slot ∷ slots) differ next =
      numbers_differ (grown keys slot) slots (one_number_more keys slot.0 (tree_of keys slot.1) differ next.0.unused) next.1

  -- each number stands once, and has a tree of its own
  pub grown_map : (slots : List (Slot W)) → AreNext [] slots → IsKeyMap (grown_by [] slots)
  grown_map slots next = record { numbers = numbers_differ [] slots tt next; trees = grown_one [] slots none_one next }

  -- a slot of a map
  abbrev pub IsRow : KeyMap W → Slot W → Type 0
  IsRow keys slot = IsNodeOf keys slot.0 slot.1

  row_stays : (keys more : KeyMap W) (slot : Slot W) → Extends keys more → IsRow keys slot → IsRow more slot
  row_stays keys more slot extends row = record {
    tree = extends slot.0 (tree_of keys slot.1) row.tree ∙ ap Some (sym (tree_stays keys more extends slot.1.content slot.1.entries row.live));
    live = all_live_stay keys more extends slot.1.entries row.live;
  }

  row_next : (keys : KeyMap W) (slot : Slot W) → IsNext keys slot → IsRow (grown keys slot) slot
  row_next keys slot next =
      let extends : Extends keys (grown keys slot) = at_front keys ((slot.0, tree_of keys slot.1) ∷ []) in
      record {
        tree = at_added keys slot.0 (tree_of keys slot.1) next.unused ∙ ap Some (sym (tree_stays keys (grown keys slot) extends slot.1.content slot.1.entries next.live));
        live = all_live_stay keys (grown keys slot) extends slot.1.entries next.live;
      }

  pub slot_row : (keys : KeyMap W) (slots : List (Slot W)) → AreNext keys slots → (place : ℕ) (slot : Slot W) → StandsAt slots place slot
      → IsRow (grown_by keys slots) slot
  slot_row keys [] next place slot stands = absurd (omega (arith, stands.0))
  slot_row keys (first ∷ slots) next zero slot stands =
      let e : slot ≡ first = stands.1 in
      subst (IsRow (grown_by (grown keys first) slots)) (sym e)
      (row_stays (grown keys first) (grown_by (grown keys first) slots) first (grown_extends (grown keys first) slots) (row_next keys first next.0))
  slot_row keys (first ∷ slots) next (suc place) slot stands =
      slot_row (grown keys first) slots next.1 place slot (omega (arith, stands.0), stands.1)

  -- each pair of a map is of a slot
  pub row_slot : (keys : KeyMap W) (slots : List (Slot W)) → AreNext keys slots → (number : ℕ) (tree : Tree W)
      → tree_at (grown_by keys slots) number ≡ Some tree
      → (tree_at keys number ≡ Some tree) ⊎ ((place : ℕ) × (slot : Slot W) × StandsAt slots place slot × (slot.0 ≡ number))
  row_slot keys [] next number tree e = inl e
  row_slot keys (first ∷ slots) next number tree e =
      elim (row_slot (grown keys first) slots next.1 number tree e) [
        | inl old ↦ elim (at_more keys first.0 number (tree_of keys first.1) tree old) [
          | inl older ↦ inl older
          | inr new ↦ inr (0, first, (omega arith, refl), new.0)
        ]
        | inr found ↦ inr (suc found.0, found.1, (omega (arith, found.2.0), found.2.1), found.3)
      ]

  pub grown_snoc : (keys : KeyMap W) (slots : List (Slot W)) (slot : Slot W)
      → grown_by keys (slots ++ slot ∷ []) ≡ grown (grown_by keys slots) slot
  grown_snoc keys [] slot = refl
  grown_snoc keys (first ∷ slots) slot = grown_snoc (grown keys first) slots slot

  pub next_snoc : (keys : KeyMap W) (slots : List (Slot W)) (slot : Slot W) → AreNext keys slots → IsNext (grown_by keys slots) slot
      → AreNext keys (slots ++ slot ∷ [])
  next_snoc keys [] slot next last = (last, tt)
  next_snoc keys (first ∷ slots) slot next last = (next.0, next_snoc (grown keys first) slots slot next.1 last)

  pub grown_length : (keys : KeyMap W) (slots : List (Slot W)) → length (grown_by keys slots) ≡ length keys + length slots
  grown_length keys [] = sym (add-zero (length keys))
  grown_length keys (slot ∷ slots) =
      grown_length (grown keys slot) slots ∙ omega (arith, length-append keys ((slot.0, tree_of keys slot.1) ∷ []))

  -- each pair stays where a slot is added
  pub snoc_extends : (slots : List (Slot W)) (slot : Slot W) → Extends (grown_by [] slots) (grown_by [] (slots ++ slot ∷ []))
  snoc_extends slots slot =
      rw (grown_snoc [] slots slot) (at_front (grown_by [] slots) ((slot.0, tree_of (grown_by [] slots) slot.1) ∷ []))
