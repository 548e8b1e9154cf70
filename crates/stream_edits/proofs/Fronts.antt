-- What two streams have in common.
use Rattle.std.proofs.Common.{◌≡◌, ℕ, ◌+◌, ◌-◌, ◌<◌, ◌≤◌, List, [], ◌∷◌, ◌++◌, length, take, drop, get_or, refl, ap, sym, ◌∙◌, arith, inl, inr, add-one}
use Rattle.std.specs.Prelude.{min}
use Rattle.std.proofs.Math.Nat.{min-le_left, min-le_right}
use Rattle.std.proofs.Math.Seq.{take-suc}
use Rattle.std.proofs.lemmas.Bool.{cases_lt}
use Rattle.std.proofs.lemmas.List.{take-take, drop-drop, drop_more, get_or-take}
use Rattle.stream_edits.specs.Streams.{Stream}
use Rattle.stream_edits.specs.Common.{IsFront, IsRest, IsLongestFront, IsLongestRest}

module _ {A : Type 0} where
  -- the first of a rest
  first_of_rest : (xs ys : List A) (i j : ℕ) (d : A) → i < length xs → j < length ys → drop i xs ≡ drop j ys
      → get_or xs i d ≡ get_or ys j d
  first_of_rest xs ys i j d in_xs in_ys same =
      let both : (get_or xs i d ∷ drop (i + 1) xs) ≡ (get_or ys j d ∷ drop (j + 1) ys) =
      sym (drop_more xs i d in_xs) ∙ (same ∙ drop_more ys j d in_ys) in
      cc

-- fewer are the same too
pub front_less : (old new : Stream) (count fewer : ℕ) → IsFront old new count → fewer ≤ count → IsFront old new fewer
front_less old new count fewer is le = record {
  in_old = omega (arith, is.in_old, le);
  in_new = omega (arith, is.in_new, le);
  same =
      sym (take-take fewer count old le)
      ∙ (ap (λ (units : Stream). take fewer units) is.same ∙ take-take fewer count new le);
}

pub rest_less : (old new : Stream) (count fewer : ℕ) → IsRest old new count → fewer ≤ count → IsRest old new fewer
rest_less old new count fewer is le =
    let in_old : length old - count + (count - fewer) ≡ length old - fewer = omega (arith, is.in_old, le) in
    let in_new : length new - count + (count - fewer) ≡ length new - fewer = omega (arith, is.in_new, le) in
    record {
      in_old = omega (arith, is.in_old, le);
      in_new = omega (arith, is.in_new, le);
      same =
          ap (λ (n : ℕ). drop n old) (sym in_old)
          ∙ (sym (drop-drop (count - fewer) (length old - count) old)
          ∙ (ap (λ (units : Stream). drop (count - fewer) units) is.same
          ∙ (drop-drop (count - fewer) (length new - count) new ∙ ap (λ (n : ℕ). drop n new) in_new)));
    }

-- from one stream to the next, and on
pub front_on : (old between new : Stream) (first second : ℕ) → IsFront old between first → IsFront between new second
    → IsFront old new (min first second)
front_on old between new first second is then =
    let before = front_less old between first (min first second) is (min-le_left first second) in
    let behind = front_less between new second (min first second) then (min-le_right first second) in
    record { in_old = before.in_old; in_new = behind.in_new; same = before.same ∙ behind.same }

pub rest_on : (old between new : Stream) (first second : ℕ) → IsRest old between first → IsRest between new second
    → IsRest old new (min first second)
rest_on old between new first second is then =
    let before = rest_less old between first (min first second) is (min-le_left first second) in
    let behind = rest_less between new second (min first second) then (min-le_right first second) in
    record { in_old = before.in_old; in_new = behind.in_new; same = before.same ∙ behind.same }

-- one more is
pub front_more : (old new : Stream) (count : ℕ) (d : ℕ × List (List ℕ)) → IsFront old new count → count < length old → count < length new
    → get_or old count d ≡ get_or new count d → IsFront old new (count + 1)
front_more old new count d is in_old in_new same = record {
  in_old = omega (arith, in_old);
  in_new = omega (arith, in_new);
  same =
      rw add-one
      (take-suc old count d in_old
      ∙ (ap (λ (unit : ℕ × List (List ℕ)). take count old ++ unit ∷ []) same
      ∙ (ap (λ (units : Stream). units ++ get_or new count d ∷ []) is.same ∙ sym (take-suc new count d in_new))));
}

-- where one isn't, no more are
pub front_stops : (old new : Stream) (count : ℕ) (d : ℕ × List (List ℕ)) → IsFront old new count → (get_or old count d ≡ get_or new count d → ⊥)
    → IsLongestFront old new count
front_stops old new count d is other = record {
  is = is;
  longest = λ more same. elim (cases_lt count more) [
    | inl above ↦
        absurd (other (sym (get_or-take more old count d above)
        ∙ (ap (λ (units : Stream). get_or units count d) same.same ∙ get_or-take more new count d above)))
    | inr le ↦ le
  ];
}

-- and where one of the streams ends
pub front_ends : (old new : Stream) (count : ℕ) → IsFront old new count → count ≡ min (length old) (length new) → IsLongestFront old new count
front_ends old new count is all = record { is = is; longest = λ more same. omega (arith, same.in_old, same.in_new, all) }

-- the same of rests
pub rest_more : (old new : Stream) (count : ℕ) (d : ℕ × List (List ℕ)) → IsRest old new count → count < length old → count < length new
    → get_or old (length old - 1 - count) d ≡ get_or new (length new - 1 - count) d → IsRest old new (count + 1)
rest_more old new count d is in_old in_new same = record {
  in_old = omega (arith, in_old);
  in_new = omega (arith, in_new);
  same =
      one_more old count d in_old
      ∙ (ap (λ (unit : ℕ × List (List ℕ)). unit ∷ drop (length old - count) old) same
      ∙ (ap (λ (units : Stream). get_or new (length new - 1 - count) d ∷ units) is.same ∙ sym (one_more new count d in_new)));
}
  where
    one_more : (units : Stream) (count : ℕ) (d : ℕ × List (List ℕ)) → count < length units
        → drop (length units - (count + 1)) units ≡ get_or units (length units - 1 - count) d ∷ drop (length units - count) units
    one_more units count d within =
        let here : length units - (count + 1) ≡ length units - 1 - count = omega (arith, within) in
        let next : length units - 1 - count + 1 ≡ length units - count = omega (arith, within) in
        ap (λ (n : ℕ). drop n units) here
        ∙ (drop_more units (length units - 1 - count) d (omega (arith, within))
        ∙ ap (λ (n : ℕ). get_or units (length units - 1 - count) d ∷ drop n units) next)

pub rest_stops : (front : ℕ) (old new : Stream) (count : ℕ) (d : ℕ × List (List ℕ)) → IsRest old new count → front + count ≤ length old
    → front + count ≤ length new → count < length old → count < length new
    → (get_or old (length old - 1 - count) d ≡ get_or new (length new - 1 - count) d → ⊥) → IsLongestRest front old new count
rest_stops front old new count d is in_old in_new has_old has_new other = record {
  is = is;
  behind_old = in_old;
  behind_new = in_new;
  longest = λ more same more_old more_new. elim (cases_lt count more) [
    | inl above ↦
        let one = rest_less old new more (count + 1) same (omega (arith, above)) in
        let old_is : length old - (count + 1) ≡ length old - 1 - count = omega arith in
        let new_is : length new - (count + 1) ≡ length new - 1 - count = omega arith in
        let rests : drop (length old - 1 - count) old ≡ drop (length new - 1 - count) new = rw (old_is, new_is) at one.same in
        absurd (other (first_of_rest old new (length old - 1 - count) (length new - 1 - count) d (omega (arith, has_old)) (omega (arith, has_new)) rests))
    | inr le ↦ le
  ];
}

pub rest_ends : (front : ℕ) (old new : Stream) (count : ℕ) → IsRest old new count → front ≤ length old → front ≤ length new
    → count ≡ min (length old) (length new) - front → IsLongestRest front old new count
rest_ends front old new count is in_old in_new all = record {
  is = is;
  behind_old = omega (arith, in_old, in_new, all);
  behind_new = omega (arith, in_old, in_new, all);
  longest = λ more same more_old more_new. omega (arith, more_old, more_new, all);
}

-- a whole stream
pub front_whole : (stream : Stream) → IsFront stream stream (length stream)
front_whole stream = record { in_old = omega arith; in_new = omega arith; same = refl }

pub rest_whole : (stream : Stream) → IsRest stream stream (length stream)
rest_whole stream = record { in_old = omega arith; in_new = omega arith; same = refl }
