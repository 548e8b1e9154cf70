-- The indices of a queue's buffers: each is there once.
use Rattle.std.proofs.Common.{◌≡◌, ◌==◌, ℕ, ◌+◌, Bool, true, false, cond, List, [], ◌∷◌, ◌++◌, length, map, Option, None, Some, get_or, is_some, find, position, remove, count_by, nat_lt, zero, suc, arith, refl, ap, sym, ◌∙◌, length-append}
use Rattle.std.specs.List.{range_with_len}
use Rattle.std.proofs.lemmas.Bool.Decides.{nat_tests}
use Rattle.std.proofs.lemmas.List.Edits.{length-remove}
use Rattle.std.proofs.lemmas.List.FromFn.{length-map-range_with_len, map-range_with_len_more}
use Rattle.std.proofs.lemmas.List.Quantifiers.{position-Some}
use Rattle.std.proofs.lemmas.List.Sums.{sum_by-append, sum_by-cons, sum_by-remove}
use Rattle.stand_in_device.specs.declared.m2m_queues.buffers.Buffer.{Buffer}
use Rattle.stand_in_device.specs.Buffers.{IsNumbered, buffer_at, free, free_buffers, turned_at}

-- the test of an index passes at the index
index_is : (a b : ℕ) → (a == b) ≡ true → a ≡ b
index_is a b e = grind (arith, nat_tests)

-- the buffer at a place goes, and one of the same index comes: each index is there as often as before
pub numbered_turned : (buffers : List Buffer) (buffer : Buffer) (place : Option ℕ) → position (λ b. b.index == buffer.index) buffers ≡ place → IsNumbered buffers → IsNumbered (turned_at buffers buffer place)
numbered_turned buffers buffer None e h = h
numbered_turned buffers buffer (Some place) e h = record {
  each = λ index.
      let found = position-Some (λ b. b.index == buffer.index) buffers place buffer e in
      let gone = sum_by-remove (λ b. cond (b.index == index) 1 0) buffers place buffer found.0 in
      let come = sum_by-append (λ b. cond (b.index == index) 1 0) (remove buffers place) (buffer ∷ []) in
      let same = index_is (get_or buffers place buffer).index buffer.index found.1 in
      let counted : count_by (λ b. b.index == index) (remove buffers place ++ buffer ∷ []) ≡ count_by (λ b. b.index == index) buffers = omega (arith, come, gone, ap (λ n. cond {A = ℕ} (n == index) 1 0) same) in
      let long : length (remove buffers place ++ buffer ∷ []) ≡ length buffers = omega (arith, length-remove buffers place found.0, length-append (remove buffers place) (buffer ∷ [])) in
      counted ∙ (h.each index ∙ ap (λ n. cond {A = ℕ} (nat_lt index n) 1 0) (sym long));
}

-- how often an index is among the first free buffers
count_free : (count index : ℕ) → count_by (λ b. b.index == index) (map free (range_with_len 0 count)) ≡ cond (nat_lt index count) 1 0
count_free zero index = grind (arith, nat_tests)
count_free (suc count) index =
    let more = ap (count_by (λ b. b.index == index)) (map-range_with_len_more free 0 count count (omega arith)) in
    let come = sum_by-append (λ b. cond (b.index == index) 1 0) (map free (range_with_len 0 count)) (free count ∷ []) in
    let before = count_free count index in
    grind (arith, nat_tests, more, come, before)

-- free buffers are numbered from 0
pub numbered_free : (count : ℕ) → IsNumbered (free_buffers count)
numbered_free count = record { each = λ index. count_free count index ∙ ap (λ n. cond {A = ℕ} (nat_lt index n) 1 0) (sym (length-map-range_with_len free 0 count)) }

-- one more buffer, which passes or not
there_first : (passes : Bool) (b : Buffer) (rest : Option Buffer) (n : ℕ) → is_some rest ≡ nat_lt 0 n → is_some (cond passes (Some b) rest) ≡ nat_lt 0 (cond passes 1 0 + n)
there_first true b rest n h = grind (arith, nat_tests)
there_first false b rest n h = grind (arith, nat_tests)

-- what is looked for is there where it counts
there_by_count : (test : Buffer → Bool) (buffers : List Buffer) → is_some (find test buffers) ≡ nat_lt 0 (count_by test buffers)
there_by_count test [] = refl
there_by_count test (b ∷ buffers) = rw (sum_by-cons (λ x. cond (test x) 1 0) b buffers) (there_first (test b) b (find test buffers) (count_by test buffers) (there_by_count test buffers))

-- one is there where it passes
one_there : (passes : Bool) → nat_lt 0 (cond passes 1 0) ≡ passes
one_there true = refl
one_there false = refl

-- the indices below the number of the buffers are those that are there
pub is_some-buffer_at : (buffers : List Buffer) (index : ℕ) → IsNumbered buffers → is_some (buffer_at buffers index) ≡ nat_lt index (length buffers)
is_some-buffer_at buffers index h = there_by_count (λ b. b.index == index) buffers ∙ (ap (nat_lt 0) (h.each index) ∙ one_there (nat_lt index (length buffers)))
