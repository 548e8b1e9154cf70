-- The keys of a stream's units where a splice of it changed.
use Rattle.std.proofs.Common.{◌≡◌, refl, ap, sym, subst, ◌∙◌, ℕ, ◌+◌, ◌-◌, ◌≤◌, List, [], ◌++◌, length, take, drop, Option, arith, append_assoc}
use Rattle.std.specs.List.{zip}
use Rattle.std.proofs.lemmas.List.{length-append, length-take-le, length-drop}
use Rattle.unit_outcomes.specs.declared.outcome.Outcome.{Outcome}
use Rattle.picture_keys.specs.Known.{Known, known_after, keys_after, keys_of}
use Rattle.picture_keys.specs.Numbered.{AllStandFor}
use Rattle.picture_store.specs.declared.changing.UnitSplice.{UnitSplice}
use Rattle.picture_store.specs.Splices.{IsSplice, ids_with, outcomes_with}
use Rattle.picture_store.specs.Stored.{Trees}
use Rattle.picture_store.proofs.Fronts.{zip_append, keys_append, stand_append, stand_front, stand_length}

module _ (ids : List ℕ) (outcomes : List Outcome) (same : length ids ≡ length outcomes) (splice : UnitSplice)
    (is : IsSplice splice ids) where
  drop_same : {X Y : Type 0} (n : ℕ) (xs : List X) (ys : List Y) → length xs ≡ length ys
      → length (drop n xs) ≡ length (drop n ys)
  drop_same n xs ys e = length-drop n xs ∙ (ap (λ k. k - n) e ∙ sym (length-drop n ys))

  front_same : length (take splice.from ids) ≡ length (take splice.from outcomes)
  front_same =
      length-take-le splice.from ids (omega (arith, is.ordered, is.within))
      ∙ sym (length-take-le splice.from outcomes (omega (arith, is.ordered, is.within, same)))

  -- each unit of the stream with the splice has an outcome
  pub same_with : length (ids_with splice ids) ≡ length (outcomes_with splice outcomes)
  same_with =
      rw (
        length-append (take splice.from ids ++ splice.ids.items) (drop splice.to ids),
        length-append (take splice.from ids) splice.ids.items,
        length-append (take splice.from outcomes ++ splice.outcomes.items) (drop splice.to outcomes),
        length-append (take splice.from outcomes) splice.outcomes.items,
        front_same,
        is.same,
        drop_same splice.to ids outcomes same,
      ) refl

  -- the units in front of the splice, and those from there on
  units_with : zip (ids_with splice ids) (outcomes_with splice outcomes)
      ≡ zip (take splice.from ids) (take splice.from outcomes)
      ++ (zip splice.ids.items splice.outcomes.items ++ zip (drop splice.to ids) (drop splice.to outcomes))
  units_with =
      ap (λ all. zip all (outcomes_with splice outcomes))
      (append_assoc (take splice.from ids) splice.ids.items (drop splice.to ids))
      ∙ (ap (λ all. zip (take splice.from ids ++ (splice.ids.items ++ drop splice.to ids)) all)
      (append_assoc (take splice.from outcomes) splice.outcomes.items (drop splice.to outcomes))
      ∙ (zip_append (take splice.from ids) (splice.ids.items ++ drop splice.to ids) (take splice.from outcomes)
      (splice.outcomes.items ++ drop splice.to outcomes) front_same
      ∙ ap (λ later. zip (take splice.from ids) (take splice.from outcomes) ++ later)
      (zip_append splice.ids.items (drop splice.to ids) splice.outcomes.items (drop splice.to outcomes) is.same)))

  -- the numbers stand for the keys of its units
  pub stand_with : (keys : Trees) (numbers later : List (Option ℕ)) → AllStandFor keys numbers (keys_of (zip ids outcomes))
      → AllStandFor keys later
      (keys_after (known_after [] (zip (take splice.from ids) (take splice.from outcomes)))
      (zip splice.ids.items splice.outcomes.items ++ zip (drop splice.to ids) (drop splice.to outcomes)))
      → AllStandFor keys (take splice.from numbers ++ later) (keys_of (zip (ids_with splice ids) (outcomes_with splice outcomes)))
  stand_with keys numbers later stand anew =
      rw (
        units_with,
        keys_append [] (zip (take splice.from ids) (take splice.from outcomes))
            (zip splice.ids.items splice.outcomes.items ++ zip (drop splice.to ids) (drop splice.to outcomes)),
      )
      (stand_append keys (take splice.from numbers) later
      (keys_of (zip (take splice.from ids) (take splice.from outcomes)))
      (keys_after (known_after [] (zip (take splice.from ids) (take splice.from outcomes)))
      (zip splice.ids.items splice.outcomes.items ++ zip (drop splice.to ids) (drop splice.to outcomes)))
      (stand_front keys [] splice.from numbers ids outcomes stand) anew)

  -- as many numbers as units of the splice and of those behind it up to a place
  pub later_long : (keys : Trees) (known : Known) (past : ℕ) (numbers later : List (Option ℕ)) → length numbers ≡ length ids
      → splice.to ≤ past → past ≤ length ids
      → AllStandFor keys (later ++ drop past numbers)
      (keys_after known (zip splice.ids.items splice.outcomes.items ++ zip (drop splice.to ids) (drop splice.to outcomes)))
      → length later + splice.to ≡ length splice.ids.items + past
  later_long keys known past numbers later long behind within stand =
      let ends : List Outcome = drop splice.to outcomes in
      let joined : zip (splice.ids.items ++ drop splice.to ids) (splice.outcomes.items ++ ends)
      ≡ zip splice.ids.items splice.outcomes.items ++ zip (drop splice.to ids) ends =
      zip_append splice.ids.items (drop splice.to ids) splice.outcomes.items ends is.same in
      let all : AllStandFor keys (later ++ drop past numbers)
      (keys_after known (zip (splice.ids.items ++ drop splice.to ids) (splice.outcomes.items ++ ends))) =
      subst (λ units. AllStandFor keys (later ++ drop past numbers) (keys_after known units)) (sym joined) stand in
      let same_all : length (splice.ids.items ++ drop splice.to ids) ≡ length (splice.outcomes.items ++ ends) =
      length-append splice.ids.items (drop splice.to ids)
      ∙ (omega (arith, is.same, drop_same splice.to ids outcomes same) ∙ sym (length-append splice.outcomes.items ends)) in
      omega (
        arith,
        stand_length keys known (later ++ drop past numbers) (splice.ids.items ++ drop splice.to ids) (splice.outcomes.items ++ ends)
            all same_all,
        length-append later (drop past numbers),
        length-append splice.ids.items (drop splice.to ids),
        length-drop past numbers,
        length-drop splice.to ids,
        long,
        behind,
        within,
        is.within,
      )
