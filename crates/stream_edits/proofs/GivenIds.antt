-- Ids stay apart under edits.
use Rattle.std.proofs.Common.{◌≡◌, ◌≢◌, ℕ, zero, suc, ◌+◌, ◌<◌, ◌≤◌, true, false, cond, List, [], ◌∷◌, length, get_or, take, drop, set, Some, ⊎_elim, ◌⊎◌, inl, inr, ap, sym, ◌∙◌, subst, arith, refl, add-one, eqb}
use Rattle.std.specs.Prelude.{insert, remove}
use Rattle.std.specs.List.{sum_by}
use Rattle.std.proofs.lemmas.Bool.{eqb-true}
use Rattle.std.proofs.lemmas.Bool.Decides.{eqb_tells}
use Rattle.std.proofs.lemmas.List.{set_split, drop_more, length-map, get_or-map}
use Rattle.std.proofs.lemmas.List.Quantifiers.{position-Some}
use Rattle.std.proofs.lemmas.List.Sums.{sum_by-append, sum_by-cons, sum_by-take-drop}
use Rattle.stream_edits.specs.declared.edits.Edit.{Edit}
use Rattle.stream_edits.specs.declared.edits.Edit.TheVariants.{Insert, Delete, Replace}
use Rattle.stream_edits.specs.Streams.{Stream, ids_of, place_among, place_of}
use Rattle.stream_edits.specs.Edits.{Register, no_units, Makes, Replays, Deletes, Replaces}
use Rattle.picture_keys.specs.Units.{AreDifferent}
use Rattle.stream_edits.specs.Ids.{units_with, HasIds}

-- a sum over a list with an item more, with one fewer, and with another in its place
module _ {X : Type 0} (f : X → ℕ) (xs : List X) (i : ℕ) where
  sum_by-insert : (x : X) → sum_by f (insert xs i x) ≡ sum_by f xs + f x
  sum_by-insert x =
      let whole = sum_by-append f (take i xs) (x ∷ drop i xs) in
      let tail = sum_by-cons f x (drop i xs) in
      let parts = sum_by-take-drop f xs i in
      omega arith

  sum_by-split : (d : X) → i < length xs → sum_by f xs ≡ sum_by f (take i xs) + (f (get_or xs i d) + sum_by f (drop (suc i) xs))
  sum_by-split d within =
      let parts = sum_by-take-drop f xs i in
      let tail = ap (sum_by f) (drop_more xs i d within) ∙ sum_by-cons f (get_or xs i d) (drop (i + 1) xs) in
      let same : sum_by f (drop (i + 1) xs) ≡ sum_by f (drop (suc i) xs) = rw add-one refl in
      omega arith

  sum_by-remove : (d : X) → i < length xs → sum_by f (remove xs i) ≤ sum_by f xs
  sum_by-remove d within =
      let whole = sum_by-append f (take i xs) (drop (suc i) xs) in
      let parts = sum_by-split d within in
      omega arith

  sum_by-replace : (x d : X) → i < length xs → f x ≡ f (get_or xs i d) → sum_by f (set xs i x) ≡ sum_by f xs
  sum_by-replace x d within same =
      let split = ap (sum_by f) (set_split xs i x within) in
      let whole = sum_by-append f (take i xs) (x ∷ drop (suc i) xs) in
      let tail = sum_by-cons f x (drop (suc i) xs) in
      let parts = sum_by-split d within in
      omega arith

-- the unit at the place of an id has the id
at_place : (stream : Stream) (id at : ℕ) (d : ℕ × List (List ℕ)) → place_of stream id ≡ Some at
    → (at < length stream) × ((get_or stream at d).0 ≡ id)
unfolding place_among
at_place stream id at d stands =
    let found = position-Some (λ other. eqb other id) (ids_of stream) at d.0 stands in
    let within : at < length stream = omega (arith, found.0, length-map stream (λ (unit : ℕ × List (List ℕ)). unit.0)) in
    let here = get_or-map (λ (unit : ℕ × List (List ℕ)). unit.0) stream at d d.0 within in
    (within, eqb-true (get_or stream at d).0 id (ap (λ other. eqb other id) (sym here) ∙ found.1))

-- none, or one at least
none_or_some : (n : ℕ) → (n ≤ 0) ⊎ (0 < n)
none_or_some zero = inl (omega arith)
none_or_some (suc n) = inr (omega arith)

-- an insertion
pub HasIds-insert : (old new : Register) (id at : ℕ) (unit : List (List ℕ)) → HasIds old → id ≡ old.ids_given + 1 → new.ids_given ≡ id
    → new.stream ≡ insert old.stream at (id, unit) → HasIds new
HasIds-insert old new id at unit ids id_is given_is stream_is = record {
  once = λ other. ⊎_elim
      (λ (is : (eqb id other ≡ true) × (id ≡ other)).
      let more : units_with new.stream other ≡ units_with old.stream other + 1 = count other ∙ ap (λ b. units_with old.stream other + cond b 1 0) is.0 in
      let least : units_with old.stream other ≤ 0 = none other (omega arith) in
      omega arith)
      (λ (is : (eqb id other ≡ false) × (id ≢ other)).
      let more : units_with new.stream other ≡ units_with old.stream other + 0 = count other ∙ ap (λ b. units_with old.stream other + cond b 1 0) is.0 in
      let once = ids.once other in
      omega arith)
      (eqb_tells id other);
  given = λ other there. ⊎_elim
      (λ (is : (eqb id other ≡ true) × (id ≡ other)). let same = is.1 in (omega arith, omega arith))
      (λ (is : (eqb id other ≡ false) × (id ≢ other)).
      let more : units_with new.stream other ≡ units_with old.stream other + 0 = count other ∙ ap (λ b. units_with old.stream other + cond b 1 0) is.0 in
      let given = ids.given other (omega arith) in
      (given.0, omega arith))
      (eqb_tells id other);
}
  where
    count : (other : ℕ) → units_with new.stream other ≡ units_with old.stream other + cond (eqb id other) 1 0
    count other =
        ap (λ stream. units_with stream other) stream_is
        ∙ sum_by-insert (λ (u : ℕ × List (List ℕ)). cond (eqb u.0 other) 1 0) old.stream at (id, unit)

    none : (other : ℕ) → old.ids_given < other → units_with old.stream other ≤ 0
    none other above =
        ⊎_elim (λ (none : units_with old.stream other ≤ 0). none)
        (λ (some : 0 < units_with old.stream other).
        let given = (ids.given other some).1 in
        absurd (omega arith))
        (none_or_some (units_with old.stream other))

-- a deletion
HasIds-delete : (old new : Register) (id : ℕ) → HasIds old → Deletes old id new → HasIds new
HasIds-delete old new id ids deletes = record {
  once = λ other. let fewer = count other in let once = ids.once other in omega arith;
  given = λ other there.
      let fewer = count other in
      let given = ids.given other (omega arith) in
      let same = deletes.given_is in
      (given.0, omega arith);
}
  where
    count : (other : ℕ) → units_with new.stream other ≤ units_with old.stream other
    count other =
        let found = at_place old.stream id deletes.at (id, []) deletes.stands in
        rw deletes.stream_is
        (sum_by-remove (λ (u : ℕ × List (List ℕ)). cond (eqb u.0 other) 1 0) old.stream deletes.at (id, []) found.0)

-- a replacement
HasIds-replace : (old new : Register) (id : ℕ) (text : List ℕ) → HasIds old → Replaces old id text new → HasIds new
HasIds-replace old new id text ids replaces = record {
  once = λ other. let same = count other in let once = ids.once other in omega arith;
  given = λ other there.
      let same = count other in
      let given = ids.given other (omega arith) in
      let stays = replaces.given_is in
      (given.0, omega arith);
}
  where
    count : (other : ℕ) → units_with new.stream other ≡ units_with old.stream other
    count other =
        let found = at_place old.stream id replaces.at (id, []) replaces.stands in
        ap (λ stream. units_with stream other) replaces.stream_is
        ∙ sum_by-replace (λ (u : ℕ × List (List ℕ)). cond (eqb u.0 other) 1 0) old.stream replaces.at (id, replaces.unit) (id, []) found.0
        (ap (λ n. cond (eqb n other) 1 0) (sym found.1))

-- an accepted edit
pub HasIds-made : (old : Register) (edit : Edit) (id : ℕ) (new : Register) → HasIds old → Makes old edit id new → HasIds new
HasIds-made old (Insert place text) id new ids makes =
    HasIds-insert old new id makes.at makes.unit ids makes.id_is makes.given_is makes.stream_is
HasIds-made old (Delete deleted) id new ids makes = HasIds-delete old new deleted ids makes.1
HasIds-made old (Replace replaced text) id new ids makes = HasIds-replace old new replaced text ids makes.1

-- accepted edits, one after the other
HasIds-replayed : (from : Register) (edits : List Edit) (to : Register) → HasIds from → Replays from edits to → HasIds to
HasIds-replayed from [] to ids is = subst HasIds is ids
HasIds-replayed from (edit ∷ edits) to ids replays =
    HasIds-replayed replays.1 edits to (HasIds-made from edit replays.0 replays.1 ids replays.2) replays.3

-- from the first edit on
pub HasIds-journal : (journal : List Edit) (register : Register) → Replays no_units journal register → HasIds register
HasIds-journal journal register replays =
    HasIds-replayed no_units journal register (record { once = λ id. omega arith; given = λ id there. absurd (omega arith) }) replays

-- the ids of units that have ids differ
pub AreDifferent-ids : (register : Register) → HasIds register → AreDifferent (ids_of register.stream)
AreDifferent-ids register ids id = let once = ids.once id in let same = count_ids register.stream id in omega arith
  where
    count_ids : (stream : Stream) (id : ℕ) → sum_by (λ other. cond (eqb other id) 1 0) (ids_of stream) ≡ units_with stream id
    count_ids [] id = refl
    count_ids (unit ∷ units) id =
        omega (
          arith,
          count_ids units id,
          sum_by-cons {X = ℕ} (λ other. cond (eqb other id) 1 0) unit.0 (ids_of units),
          sum_by-cons {X = ℕ × List (List ℕ)} (λ unit. cond (eqb unit.0 id) 1 0) unit units,
        )
