-- A fingerprint added to an index.
use Rattle.std.proofs.Common.{◌≡◌, refl, ap, sym, ◌∙◌, ℕ, ◌+◌, ◌<◌, ◌≤◌, List, [], ◌∷◌, ◌++◌, length, get_or, Bool, true, false, cond, Option, None, Some, Decides, length-append, arith, subst, inl, inr}
use Rattle.std.proofs.Math.ListN.{get_or-append}
use Rattle.std.proofs.Math.Seq.{get_or-append_seam}
use Rattle.std.proofs.lemmas.Bool.Decides.{Decides-eqb}
use Rattle.std.proofs.lemmas.Bool.{cases_lt}
use Rattle.std.proofs.lemmas.Slice.Eq.{slice_eq-Decides}
use Rattle.std.proofs.lemmas.Map.Text.{is_eq-slice_cmp}
use Rattle.std.specs.Ordering.{nat_cmp}
use Rattle.std.specs.Cmp.Lexicographic.{slice_cmp}
use Rattle.std.specs.BTreeMap.{BTreeMap, get, is_at, Updates}
use Rattle.decode_jobs.specs.Indexed.{at, IsLast, AreIndexed}

at_front : (xs : List (List ℕ)) (f : List ℕ) (i : ℕ) → i < length xs → at (xs ++ f ∷ []) i ≡ at xs i
at_front xs f i h = get_or-append xs (f ∷ []) [] i h

at_end : (xs : List (List ℕ)) (f : List ℕ) (i : ℕ) → i ≡ length xs → at (xs ++ f ∷ []) i ≡ f
at_end xs f i e = ap (at (xs ++ f ∷ [])) e ∙ get_or-append_seam xs f [] []

same_key : (f q : List ℕ) → Decides (is_at (slice_cmp nat_cmp f) q) (f ≡ q)
same_key f q = slice_eq-Decides Decides-eqb f q _ (is_eq-slice_cmp f q)

-- below the end of the list as it was, nothing changes
last_stays : (xs : List (List ℕ)) (f q : List ℕ) (end : ℕ) (o : Option ℕ) → end ≤ length xs
    → IsLast xs end q o → IsLast (xs ++ f ∷ []) end q o
last_stays xs f q end None le last = λ i h e. last i h (sym (at_front xs f i (omega arith)) ∙ e)
last_stays xs f q end (Some place) le last =
    let below : place < end = last.0 in
    (last.0, at_front xs f place (omega arith) ∙ last.1, λ i h k e. last.2 i h k (sym (at_front xs f i (omega arith)) ∙ e))

-- one of another fingerprint at the end changes nothing
last_of_others : (xs : List (List ℕ)) (f q : List ℕ) (end : ℕ) (o : Option ℕ) → end ≡ length xs → (f ≡ q → ⊥)
    → IsLast (xs ++ f ∷ []) end q o → IsLast (xs ++ f ∷ []) (end + 1) q o
last_of_others xs f q end None e ne last = λ i h is. elim (cases_lt i end) [ inl lt ↦ last i lt is | inr ge ↦ ne (sym (at_end xs f i (omega arith)) ∙ is) ]
last_of_others xs f q end (Some place) e ne last =
    let below : place < end = last.0 in
    (omega arith, last.1, λ i h k is. elim (cases_lt i end) [ inl lt ↦ last.2 i h lt is | inr ge ↦ ne (sym (at_end xs f i (omega arith)) ∙ is) ])

last_after : (xs : List (List ℕ)) (f q : List ℕ) (end : ℕ) (b : Bool) (o : Option ℕ) → end ≡ length xs → Decides b (f ≡ q)
    → IsLast xs end q o → IsLast (xs ++ f ∷ []) (end + 1) q (cond b (Some end) o)
last_after xs f q end true o e d last =
    (omega arith, at_end xs f end e ∙ d.0 refl, λ i h k is. omega arith)
last_after xs f q end false o e d last =
    last_of_others xs f q end o e (λ is. (cc (d.1 is))) (last_stays xs f q end o (omega arith) last)

older_front : (older : List (Option ℕ)) (o : Option ℕ) (i : ℕ) → i < length older
    → get_or (older ++ o ∷ []) i None ≡ get_or older i None
older_front older o i h = get_or-append older (o ∷ []) None i h

module _ (xs : List (List ℕ)) (f : List ℕ) (newest after : BTreeMap (List ℕ) ℕ) (older : List (Option ℕ)) (o : Option ℕ) where
  pub index_more : (place : ℕ) → place ≡ length xs → AreIndexed xs newest older
      → o ≡ get (slice_cmp nat_cmp) newest f → Updates (slice_cmp nat_cmp) newest after f (Some place)
      → AreIndexed (xs ++ f ∷ []) after (older ++ o ∷ [])
  index_more end at_length indexed is updates = record {
    last = λ q.
        rw (length-append xs (f ∷ []), updates.0 q, at_length)
        (last_after xs f q (length xs) (is_at (slice_cmp nat_cmp f) q) (get (slice_cmp nat_cmp) newest q) refl (same_key f q) (indexed.last q));
    before = λ place h. elim (cases_lt place (length xs)) [
      | inl lt ↦
          let lt2 : place < length older = omega (arith, indexed.len) in
          rw (at_front xs f place lt, older_front older o place lt2)
          (last_stays xs f (at xs place) place (get_or older place None) (omega arith) (indexed.before place lt))
      | inr ge ↦
          let e : place ≡ length xs = omega (arith, length-append xs (f ∷ [])) in
          let e2 : place ≡ length older = omega (arith, indexed.len) in
          rw (at_end xs f place e)
          (subst (λ p. IsLast (xs ++ f ∷ []) place f p) (sym (ap (λ n. get_or (older ++ o ∷ []) n None) e2 ∙ get_or-append_seam older o [] None))
          (last_stays xs f f place o (omega arith)
          (subst (λ n. IsLast xs n f o) (sym e) (subst (IsLast xs (length xs) f) (sym is) (indexed.last f)))))
    ];
    len = simp length-append (omega (arith, indexed.len));
  }
