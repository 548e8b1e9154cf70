-- The bytes of a window, after a step of its places, a move, a growth, or a read past its end.
use Rattle.std.proofs.Common.{◌≡◌, ℕ, ◌+◌, ◌-◌, ◌≤◌, Bool, true, false, ltb, List, [], ◌++◌, length, take, drop, slice_range, Option, Some, None, Result, Ok, Err, IfOk, OnErr, refl, sym, ap, ◌∙◌, arith, append_assoc}
use Rattle.std.proofs.lemmas.Bool.{false≢true}
use Rattle.std.proofs.lemmas.List.{append-nil, take_at, drop_at, take-append-le, drop-append-le, drop-take, drop-drop, length-take-le, length-drop}
use Rattle.std.specs.Io.KnownBytes.{Consumes, IsAtEnd, Keeps, prepend_known}
use borrow.Rule.Slice.PartMut.{put_mid, post_of}
use lib.Seq.{take-add}
use Rattle.plan_stream.specs.declared.window.Window.{Window}
use Rattle.plan_stream.specs.Fronts.{front_len}
use Rattle.plan_stream.specs.Windows.{HasLeft, IsWalkedAlong, Shows, front_of, held_by}
use Rattle.plan_stream.proofs.Lengths.{same_some}
use Rattle.plan_stream.proofs.Walks.{walked-longer}

-- bytes past the end are added
pub grown : (xs ys : List ℕ) (start end k n : ℕ) → start ≤ end → end ≤ length xs → n ≤ length ys
    → slice_range (put_mid end k xs ys) start (end + n) ≡ slice_range xs start end ++ take n ys
grown xs ys start end k n ordered within fits =
    let front = length-take-le end xs within in
    let held = drop start (take end xs) in
    let len : length held ≡ end - start = omega (arith, length-drop start (take end xs)) in
    let sum : end + n - start ≡ (end - start) + n = omega arith in
    let parts : end ≡ start + (end - start) = omega arith in
    let same : held ≡ take (end - start) (drop start xs) = ap (λ j. drop start (take j xs)) parts ∙ drop-take start (end - start) xs in
    let after = ys ++ post_of end k xs in
    ap (take (end + n - start)) (drop-append-le start (take end xs) after (omega arith))
    ∙ ap (λ j. take j (held ++ after)) sum ∙ take-add (end - start) n (held ++ after)
    ∙ (rw (take_at held after _ len, drop_at held after _ len, take-append-le n ys (post_of end k xs) fits, same) refl)

-- and those before it stay
pub kept : (xs ys : List ℕ) (start end k : ℕ) → start ≤ end → end ≤ length xs
    → slice_range (put_mid end k xs ys) start end ≡ slice_range xs start end
kept xs ys start end k ordered within =
    let none : end ≡ end + 0 = omega arith in
    ap (slice_range (put_mid end k xs ys) start) none ∙ grown xs ys start end k 0 ordered within (omega arith) ∙ append-nil _

-- two ranges, one after the other
pub parted : (xs : List ℕ) (start cut end : ℕ) → start ≤ cut → cut ≤ end → slice_range xs start end ≡ slice_range xs start cut ++ slice_range xs cut end
parted xs start cut end ordered held =
    let sum : end - start ≡ (cut - start) + (end - cut) = omega arith in
    let there : start + (cut - start) ≡ cut = omega arith in
    ap (λ n. take n (drop start xs)) sum ∙ take-add (cut - start) (end - cut) (drop start xs)
    ∙ ap (λ l. take (cut - start) (drop start xs) ++ take (end - cut) l) (drop-drop (cut - start) start xs ∙ ap (λ n. drop n xs) there)

-- what was read is held, and what stays is left
pub left-read : (held : List ℕ) (old new : Option (List ℕ)) (more left : List ℕ) → Consumes old new more
    → prepend_known held old ≡ Some left → prepend_known (held ++ more) new ≡ Some left
left-read held None new more left consumes e = absurd (cc)
left-read held (Some xs) None more left consumes e = absurd consumes
left-read held (Some xs) (Some ys) more left consumes e =
    ap Some (append_assoc held more ys ∙ ap (λ l. held ++ l) (sym consumes)) ∙ e

pub left-kept : (held : List ℕ) (old new : Option (List ℕ)) (left : List ℕ) → Keeps old new
    → prepend_known held old ≡ Some left → prepend_known held new ≡ Some left
left-kept held None new left keeps e = absurd (cc)
left-kept held (Some xs) None left keeps e = absurd keeps
left-kept held (Some xs) (Some ys) left keeps e = ap (λ l. Some (held ++ l)) keeps ∙ e

-- a window after a read
pub HasLeft-read : (old new : Window) (known after : Option (List ℕ)) (more left : List ℕ)
    → held_by new ≡ held_by old ++ more → Consumes known after more → (new.is_over ≡ true → IsAtEnd after)
    → HasLeft old known left → HasLeft new after left
HasLeft-read old new known after more left held consumes over has =
    record { left_is = rw held (left-read (held_by old) known after more left consumes has.left_is); over = over }

pub HasLeft-kept : (old new : Window) (known after : Option (List ℕ)) (left : List ℕ)
    → held_by new ≡ held_by old → Keeps known after → new.is_over ≡ false
    → HasLeft old known left → HasLeft new after left
HasLeft-kept old new known after left held keeps over has =
    record { left_is = rw held (left-kept (held_by old) known after left keeps has.left_is); over = λ is. absurd (false≢true (sym over ∙ is)) }

pub walked-read : (old new : Window) (more : List ℕ) → held_by new ≡ held_by old ++ more → new.walk ≡ old.walk → IsWalkedAlong old → IsWalkedAlong new
walked-read old new more held same walked =
    rw (held, same) (walked-longer (held_by old) more old.walk.places.items old.walk.next old.walk.has_slice walked)

-- and one that holds the same
pub HasLeft-same : (old new : Window) (known : Option (List ℕ)) (left : List ℕ)
    → held_by new ≡ held_by old → new.is_over ≡ old.is_over → HasLeft old known left → HasLeft new known left
HasLeft-same old new known left held over has =
    record { left_is = rw held has.left_is; over = λ is. has.over (sym over ∙ is) }

-- a window that shows some of what it held
pub Shows-front : (old new : Window) (known : Option (List ℕ)) (left : List ℕ) (len : ℕ) (is_some : Bool)
    → HasLeft old known left → held_by old ≡ front_of new ++ held_by new → length (front_of new) ≡ len → new.is_over ≡ old.is_over
    → ((more : List ℕ) → (old.is_over ≡ true → more ≡ []) → front_len false (held_by old ++ more) ≡ len)
    → is_some ≡ ltb 0 len → Shows left is_some new known
Shows-front old new None left len is_some has parts len_is over found some = absurd (none_left has.left_is)
  where
    none_left : prepend_known (held_by old) None ≡ Some left → ⊥
    none_left e = cc
Shows-front old new (Some xs) left len is_some has parts len_is over found some = record {
  rest = held_by new ++ xs;
  has = record { left_is = refl; over = λ is. has.over (sym over ∙ is) };
  front = record { whole = whole; len = len_is ∙ sym front };
  some = some ∙ (ap (ltb 0) (sym front) ∙ same_some left);
}
  where
    left_is : held_by old ++ xs ≡ left
    left_is = some_is (held_by old ++ xs) left has.left_is
      where
        some_is : (a b : List ℕ) → Some a ≡ Some b → a ≡ b
        some_is a b e = cc

    whole : left ≡ front_of new ++ (held_by new ++ xs)
    whole = sym left_is ∙ ap (λ l. l ++ xs) parts ∙ append_assoc (front_of new) (held_by new) xs

    front : front_len false left ≡ len
    front = ap (front_len false) (sym left_is) ∙ found xs has.over

-- a read past the end
module _ {E : Type 0} (known after : Option (List ℕ)) (xs ys : List ℕ) (start end k : ℕ) (ordered : start ≤ end) (within : end ≤ length xs) where
  pub read-ok : (result : Result ℕ E) → IfOk result (λ n. n ≤ length ys) → IfOk result (λ n. Consumes known after (take n ys))
      → IfOk result (λ n. (more : List ℕ) × (slice_range (put_mid end k xs ys) start (end + n) ≡ slice_range xs start end ++ more) × Consumes known after more)
  read-ok (Ok n) bound consumes = (take n ys, grown xs ys start end k n ordered within bound, consumes)
  read-ok (Err e) bound consumes = tt

  pub read-err : (result : Result ℕ E) → OnErr result (Keeps known after)
      → OnErr result ((slice_range (put_mid end k xs ys) start end ≡ slice_range xs start end) × Keeps known after)
  read-err (Ok n) keeps = tt
  read-err (Err e) keeps = (kept xs ys start end k ordered within, keeps)
