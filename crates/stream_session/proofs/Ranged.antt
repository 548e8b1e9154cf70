-- The splice that a change makes anew.
use Rattle.std.proofs.Common.{◌≡◌, ℕ, ◌+◌, ◌-◌, ◌<◌, ◌≤◌, List, ◌++◌, length, take, drop, Option, None, Some, IfSome, ap, sym, ◌∙◌, arith, append_assoc}
use Rattle.std.proofs.Math.Seq.{drop-append-add, take-length}
use Rattle.std.proofs.lemmas.List.{take-append-drop, drop-drop, drop-append-le, length-take-le, length-append, length-drop, length-map, map-append, take-map, drop-map}
use Rattle.unit_outcomes.specs.declared.outcome.Outcome.{Outcome}
use Rattle.request_core.specs.States.{no_units}
use Rattle.request_core.specs.Fold.{outcomes_of}
use Rattle.picture_store.specs.declared.changing.UnitSplice.{UnitSplice}
use Rattle.picture_store.specs.Splices.{ids_with}
use Rattle.stream_edits.specs.declared.changes.Change.{Change}
use Rattle.stream_edits.specs.Changes.{IsInside, at_of, rest_from, units_of, stream_after}
use Rattle.stream_edits.specs.Streams.{Stream, ids_of}
use Rattle.stream_fold.specs.Changes.{place_after}
use Rattle.stream_fold.specs.Refolding.{end_of}
use Rattle.stream_fold.proofs.Changed.{at_inside, at_rest, length_after, place_is, rest_inside, split_after, take_before}
use Rattle.stream_fold.proofs.Folds.{take-outcomes_from}
use Rattle.stream_session.specs.Splices.{IsSpliceOf, ids_anew}
use Rattle.stream_session.proofs.Looked.{length-outcomes_of}

module _ {A : Type 0} where
  -- a splice, and the rest behind it
  drop_split : (p q : ℕ) (xs : List A) → p ≤ q → drop p xs ≡ take (q - p) (drop p xs) ++ drop q xs
  drop_split p q xs le =
      let sum : p + (q - p) ≡ q = omega (arith, le) in
      sym (take-append-drop (q - p) (drop p xs))
      ∙ ap (λ (ys : List A). take (q - p) (drop p xs) ++ ys)
      (drop-drop (q - p) p xs ∙ ap (λ (n : ℕ). drop n xs) sum)

  -- what is left of a list past a place
  pub take_rest : (n : ℕ) (xs : List A) → take (length xs - n) (drop n xs) ≡ drop n xs
  take_rest n xs = ap (λ (k : ℕ). take k (drop n xs)) (sym (length-drop n xs)) ∙ take-length (drop n xs)

  seam : (a b c d : List A) → a ++ (b ++ c) ++ d ≡ a ++ (b ++ (c ++ d))
  seam a b c d = append_assoc a (b ++ c) d ∙ ap (λ (ys : List A). a ++ ys) (append_assoc b c d)

  -- a list whose front is that of another, and which goes on with a splice
  from_later : (from at to : ℕ) (old made new : List A) → new ≡ take from old ++ made ++ drop to old
      → from ≤ at → at ≤ length old → at - from ≤ length made → take at new ≡ take at old
      → new ≡ take at old ++ drop (at - from) made ++ drop to old
  from_later from at to old made new is before within long same =
      let front = take from old in
      let short : length front ≡ from = length-take-le from old (omega (arith, before, within)) in
      let sum : at ≡ length front + (at - from) = omega (arith, short, before) in
      let rest : drop at new ≡ drop (at - from) made ++ drop to old =
      ap (λ (xs : List A). drop at xs) (is ∙ append_assoc front made (drop to old))
      ∙ (ap (λ (n : ℕ). drop n (front ++ (made ++ drop to old))) sum
      ∙ (drop-append-add front (made ++ drop to old) (at - from)
      ∙ drop-append-le (at - from) made (drop to old) long)) in
      sym (take-append-drop at new)
      ∙ (ap (λ (xs : List A). xs ++ drop at new) same
      ∙ (ap (λ (xs : List A). take at old ++ xs) rest
      ∙ sym (append_assoc (take at old) (drop (at - from) made) (drop to old))))

module _ (change : Change) (stream : Stream) (inside : IsInside change stream) where
  abbrev after : Stream
  after = stream_after change stream

  many : length (outcomes_of stream) ≡ length stream
  many = length-outcomes_of stream

  -- the outcomes in front of a change stay
  front_stays : take (at_of change) (outcomes_of after) ≡ take (at_of change) (outcomes_of stream)
  front_stays =
      take-outcomes_from no_units (at_of change) after
      ∙ (ap outcomes_of (take_before change stream inside (at_of change) (omega arith))
      ∙ sym (take-outcomes_from no_units (at_of change) stream))

  module _ (from to : ℕ) (made : List Outcome) (before : from ≤ at_of change) (behind : rest_from change ≤ to) (within : to ≤ length stream)
      (is : outcomes_of after ≡ take from (outcomes_of stream) ++ made ++ drop to (outcomes_of stream)) where
    -- what is made anew goes up to the change at least
    pub made_long : at_of change - from ≤ length made
    made_long =
        let all : length (outcomes_of after) ≡ place_after change (length stream) = length-outcomes_of after ∙ length_after change stream inside in
        omega (
          arith,
          all,
          ap length is,
          length-append (take from (outcomes_of stream) ++ made) (drop to (outcomes_of stream)),
          length-append (take from (outcomes_of stream)) made,
          length-take-le from (outcomes_of stream) (omega (arith, many, before, at_inside change stream inside)),
          length-drop to (outcomes_of stream),
          many,
          place_is change (length stream) (rest_inside change stream inside),
          before,
          behind,
          within,
        )

    -- from the change on it is what changes
    pub outcomes_later : outcomes_of after
        ≡ take (at_of change) (outcomes_of stream) ++ drop (at_of change - from) made ++ drop to (outcomes_of stream)
    outcomes_later =
        from_later from (at_of change) to (outcomes_of stream) made (outcomes_of after) is before
        (omega (arith, many, at_inside change stream inside)) made_long front_stays

  module _ (to : ℕ) (behind : rest_from change ≤ to) where
    abbrev back : Stream
    back = take (to - rest_from change) (drop (rest_from change) stream)

    -- the changed stream: what stays in front, the splice, and what stays behind
    parts : after ≡ take (at_of change) stream ++ (units_of change ++ (back ++ drop to stream))
    parts =
        split_after change stream inside
        ∙ ap (λ (xs : Stream). take (at_of change) stream ++ (units_of change ++ xs))
        (drop_split (rest_from change) to stream behind)

    abbrev id_of_unit : ℕ × List (List ℕ) → ℕ
    id_of_unit unit = unit.0

    -- their ids
    pub ids_replaced : take (at_of change) (ids_of stream) ++ ids_anew change stream to ++ drop to (ids_of stream)
        ≡ ids_of after
    ids_replaced =
        rw (
          parts,
          map-append id_of_unit (take (at_of change) stream) (units_of change ++ (back ++ drop to stream)),
          map-append id_of_unit (units_of change) (back ++ drop to stream),
          map-append id_of_unit back (drop to stream),
          take-map id_of_unit (at_of change) stream,
          drop-map id_of_unit to stream,
        )
        (seam (ids_of (take (at_of change) stream)) (ids_of (units_of change)) (ids_of back) (ids_of (drop to stream)))

-- what is found of a change is its splice
pub is_splice_of : (change : Change) (stream : Stream) → IsInside change stream → (splice : UnitSplice)
    → splice.from ≡ at_of change → rest_from change ≤ splice.to → splice.to ≤ length stream
    → splice.ids.items ≡ ids_anew change stream splice.to
    → outcomes_of (stream_after change stream)
    ≡ take (at_of change) (outcomes_of stream) ++ splice.outcomes.items ++ drop splice.to (outcomes_of stream)
    → IsSpliceOf change stream splice
is_splice_of change stream inside splice from_is behind within ids_is outcomes_at =
    let ordered : splice.from ≤ splice.to = omega (arith, from_is, behind, at_rest change stream inside) in
    let outcomes_is : outcomes_of (stream_after change stream)
    ≡ take splice.from (outcomes_of stream) ++ splice.outcomes.items ++ drop splice.to (outcomes_of stream) =
    outcomes_at ∙ ap (λ (n : ℕ). take n (outcomes_of stream) ++ splice.outcomes.items ++ drop splice.to (outcomes_of stream)) (sym from_is) in
    let ids_are : ids_with splice (ids_of stream) ≡ ids_of (stream_after change stream) =
    ap (λ (ids : List ℕ). take splice.from (ids_of stream) ++ ids ++ drop splice.to (ids_of stream)) ids_is
    ∙ (ap (λ (n : ℕ). take n (ids_of stream) ++ ids_anew change stream splice.to ++ drop splice.to (ids_of stream)) from_is
    ∙ ids_replaced change stream inside splice.to behind) in
    let ids_many : length (ids_of stream) ≡ length stream = length-map stream (λ (unit : ℕ × List (List ℕ)). unit.0) in
    let outcomes_many : length (outcomes_of stream) ≡ length stream = length-outcomes_of stream in
    record {
      is_splice = record {
        ordered = ordered;
        within = omega (arith, ids_many, within);
        same =
            same_length (ids_of stream) (outcomes_of stream) splice.from splice.to splice.ids.items splice.outcomes.items
            (ids_many ∙ sym outcomes_many) (omega (arith, ids_many, within, ordered))
            (ap length ids_are
            ∙ (length-map (stream_after change stream) (λ (unit : ℕ × List (List ℕ)). unit.0)
            ∙ (sym (length-outcomes_of (stream_after change stream)) ∙ ap length outcomes_is)));
      };
      ids_are = ids_are;
      outcomes_are = sym outcomes_is;
    }
  where
    same_length : {X Y : Type 0} (xs : List X) (ys : List Y) (from to : ℕ) (made : List X) (others : List Y)
        → length xs ≡ length ys → from ≤ length xs
        → length (take from xs ++ made ++ drop to xs) ≡ length (take from ys ++ others ++ drop to ys)
        → length made ≡ length others
    same_length xs ys from to made others same within all =
        let left = rw (
          length-append (take from xs ++ made) (drop to xs),
          length-append (take from xs) made,
          length-append (take from ys ++ others) (drop to ys),
          length-append (take from ys) others,
          length-take-le from xs within,
          length-take-le from ys (omega (arith, within, same)),
          length-drop to xs,
          length-drop to ys,
        ) at all in
        omega (arith, left, same)

-- a splice ends behind the changed unit
pub ends_behind : (change : Change) (stream : Stream) → IsInside change stream → (met : Option ℕ) (Met : ℕ → Type 0)
    → IfSome met (λ to. (rest_from change < to) × (to ≤ length stream) × Met to) → rest_from change ≤ end_of stream met
ends_behind change stream inside None Met is = rest_inside change stream inside
ends_behind change stream inside (Some to) Met is = omega (arith, is.0)
