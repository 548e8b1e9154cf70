-- A stream under the edits of a group, and the change that it comes to.
use Rattle.std.proofs.Common.{◌≡◌, ℕ, ◌+◌, ◌-◌, ◌≤◌, List, [], ◌∷◌, ◌++◌, length, take, drop, refl, ap, sym, ◌∙◌, arith, append_assoc, length-append, length-drop}
use Rattle.std.proofs.Math.Seq.{drop-append-add, take-append_seam}
use Rattle.std.proofs.lemmas.List.{take-append-drop, take-take, length-take-le, map-append, take-map, drop-map}
use Rattle.stream_edits.specs.declared.accepting.AcceptedEdit.{AcceptedEdit}
use Rattle.stream_edits.specs.declared.accepting.AcceptedGroup.{AcceptedGroup}
use Rattle.stream_edits.specs.declared.changes.Change.{Change}
use Rattle.stream_edits.specs.declared.draft.Draft.{Draft}
use Rattle.stream_edits.specs.declared.edits.Edit.{Edit}
use Rattle.stream_edits.specs.Streams.{Stream, ids_of}
use Rattle.stream_edits.specs.Changes.{IsFor, IsInside, at_of, rest_from, units_of, stream_after}
use Rattle.stream_edits.specs.Common.{IsFront, IsRest, IsLongestFront, IsLongestRest}
use Rattle.stream_edits.specs.Drafts.{IsDraft, IsMade, register_of}
use Rattle.stream_edits.specs.Edits.{Register}
use Rattle.stream_edits.specs.Groups.{IsForAll, IsSized}
use Rattle.stream_edits.proofs.Fronts.{front_on, rest_on}
use Rattle.stream_edits.proofs.Grouped.{MakesAll-push}

module _ (change : Change) (stream : Stream) (inside : IsInside change stream) where
  abbrev at : ℕ
  at = at_of change

  abbrev after : Stream
  after = stream_after change stream

  at_within : at ≤ length stream
  at_within = omega (arith, inside.ordered, inside.within)

  front_long : length (take at stream) ≡ at
  front_long = length-take-le at stream at_within

  after_is : after ≡ take at stream ++ (units_of change ++ drop (rest_from change) stream)
  after_is = append_assoc (take at stream) (units_of change) (drop (rest_from change) stream)

  after_long : length after ≡ at + length (units_of change) + (length stream - rest_from change)
  after_long = omega (
    arith,
    front_long,
    length-append (take at stream ++ units_of change) (drop (rest_from change) stream),
    length-append (take at stream) (units_of change),
    length-drop (rest_from change) stream,
  )

  -- in front of a change all stays
  pub front_stays : IsFront stream after at
  front_stays = record {
    in_old = at_within;
    in_new = omega (arith, after_long);
    same =
        sym (ap (λ (units : Stream). take at units) after_is
        ∙ (ap (λ (n : ℕ). take n (take at stream ++ (units_of change ++ drop (rest_from change) stream))) (sym front_long)
        ∙ take-append_seam (take at stream) (units_of change ++ drop (rest_from change) stream)));
  }

  -- and behind it
  pub rest_stays : IsRest stream after (length stream - rest_from change)
  rest_stays =
      let whole : length stream - (length stream - rest_from change) ≡ rest_from change = omega (arith, inside.within) in
      let front : Stream = take at stream ++ units_of change in
      let long : length front ≡ at + length (units_of change) = omega (arith, front_long, length-append (take at stream) (units_of change)) in
      let begins : length after - (length stream - rest_from change) ≡ length front + 0 = omega (arith, after_long, long) in
      record {
        in_old = omega arith;
        in_new = omega (arith, after_long);
        same =
            ap (λ (n : ℕ). drop n stream) whole
            ∙ sym (ap (λ (n : ℕ). drop n after) begins ∙ drop-append-add front (drop (rest_from change) stream) 0);
      }

-- the ids of the units after a change
pub ids_after : (change : Change) (stream : Stream)
    → take (at_of change) (ids_of stream) ++ ids_of (units_of change) ++ drop (rest_from change) (ids_of stream) ≡ ids_of (stream_after change stream)
ids_after change stream =
    let id : ℕ × List (List ℕ) → ℕ = λ unit. unit.0 in
    rw (
      map-append id (take (at_of change) stream ++ units_of change) (drop (rest_from change) stream),
      map-append id (take (at_of change) stream) (units_of change),
      take-map id (at_of change) stream,
      drop-map id (rest_from change) stream,
    ) refl

-- one edit more is made
pub IsDraft-made : (old : Register) (edits : List Edit) (draft new : Draft) (edit : Edit) (accepted : AcceptedEdit) → IsDraft old edits draft
    → IsFor (register_of draft) edit accepted → IsMade draft accepted new → IsDraft old (edits ++ edit ∷ []) new
IsDraft-made old edits draft new edit accepted is for made =
    let front = front_on old.stream draft.units.items (stream_after accepted.change draft.units.items) draft.front (at_of accepted.change)
    is.front (front_stays accepted.change draft.units.items for.inside) in
    let rest = rest_on old.stream draft.units.items (stream_after accepted.change draft.units.items) draft.rest
    (length draft.units.items - rest_from accepted.change)
    is.rest (rest_stays accepted.change draft.units.items for.inside) in
    record {
      makes =
          rw (made.about_is, made.given_is, made.units_are)
          (MakesAll-push old edits draft.about.items (register_of draft) edit accepted.id _ is.makes for.makes);
      ids_are = made.ids_are;
      front = rw (made.units_are, made.front_is) front;
      rest = rw (made.units_are, made.rest_is) rest;
    }

-- the change from one stream to the other is what lies between the units that they have in common
module _ (old new : Stream) (at rest : ℕ) (front : IsFront old new at) (behind : IsRest old new rest)
    (in_old : at + rest ≤ length old) (in_new : at + rest ≤ length new) where
  abbrev to : ℕ
  to = length new - rest

  pub replaced : take at old ++ drop at (take to new) ++ drop (length old - rest) old ≡ new
  replaced =
      let below : at ≤ to = omega (arith, in_new) in
      rw (front.same, behind.same)
      (ap (λ (units : Stream). units ++ drop to new)
      (ap (λ (units : Stream). units ++ drop at (take to new)) (sym (take-take at to new below)) ∙ take-append-drop at (take to new))
      ∙ take-append-drop to new)

-- what a draft comes to
pub IsForAll-draft : (old : Register) (edits : List Edit) (draft : Draft) (rest : ℕ) (accepted : AcceptedGroup) → IsDraft old edits draft → IsSized edits
    → IsLongestFront old.stream draft.units.items (at_of accepted.change)
    → IsLongestRest (at_of accepted.change) old.stream draft.units.items rest
    → rest_from accepted.change ≡ length old.stream - rest
    → units_of accepted.change ≡ drop (at_of accepted.change) (take (length draft.units.items - rest) draft.units.items)
    → accepted.ids.items ≡ draft.about.items → accepted.ids_given ≡ draft.ids_given
    → IsForAll old edits accepted
IsForAll-draft old edits draft rest accepted is sized front behind rest_is units_are ids_are given_is =
    let made : stream_after accepted.change old.stream ≡ draft.units.items =
    ap (λ (n : ℕ). take (at_of accepted.change) old.stream ++ units_of accepted.change ++ drop n old.stream) rest_is
    ∙ (ap (λ (units : Stream). take (at_of accepted.change) old.stream ++ units ++ drop (length old.stream - rest) old.stream) units_are
    ∙ replaced old.stream draft.units.items (at_of accepted.change) rest front.is behind.is behind.behind_old behind.behind_new) in
    let left : length old.stream - rest_from accepted.change ≡ rest = omega (arith, rest_is, behind.behind_old) in
    record {
      sized = sized;
      inside = record {
        ordered = omega (arith, rest_is, behind.behind_old);
        within = omega (arith, rest_is);
      };
      makes = rw (made, ids_are, given_is) is.makes;
      front = rw made front;
      rest = rw (made, left) behind;
    }
