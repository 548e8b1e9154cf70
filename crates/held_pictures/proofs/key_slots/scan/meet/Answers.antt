use Rattle.std.proofs.Common.{◌≡◌, sym, ap, ◌∙◌, subst, ◌<◌, length, Some, IsTrue, slice_get, get_or, arith}
use Rattle.std.specs.List.{zip}
use Rattle.std.proofs.lemmas.Option.{get_or_from_slice_get, slice_get-get_or}
use Rattle.held_pictures.specs.Held.{IsWaiting}
use Rattle.held_pictures.specs.Needed.{IsValid}
use Rattle.held_pictures.proofs.Scans.{scan_passes, scan_forgets, scan_finds}
use Rattle.held_pictures.proofs.Standing.{found_of_valid, valid_of_found}
use Rattle.held_pictures.proofs.Wanting.{id_of_valid, not_nothing, on_ok_four, some_there}
use Rattle.held_pictures.proofs.key_slots.scan.meet.Goals as goal
use Rattle.held_pictures.proofs.key_slots.scan.meet.Goals.{then-is_none-via-then-is_none, then-is_none-via-else-is_none+then-not-is_among}

pub returns-then-is_none : goal.returns-then-is_none
returns-then-is_none g c = λ target scanned.
    let units = c.args.units.now in
    let Waits = IsWaiting units.numbers.now units.key_slots.now in
    let id = get_or units.ids.now c.args.at c.index-units-at.result in
    scan_passes (zip units.ids.now units.outcomes.now) Waits target c.args.at c.args.scan.now.wanted.items
    c.args.scan.now.needed.items scanned
    (λ other valid among. elim c.then-is_none.branch [
      | then-is_none-via-then-is_none w ↦
          let found = found_of_valid units.keys.now units.ids.now units.outcomes.now units.numbers.now c.requires.columns.stand c.args.at other valid in
          not_nothing (get_or units.numbers.now c.args.at c.index-units-at-2.result) c.is_none.result found.0 c.is_none.ensures
          w.if-is_none.true
          (get_or_from_slice_get units.numbers.now c.args.at (Some found.0) c.index-units-at-2.result found.1)
      | then-is_none-via-else-is_none+then-not-is_among w ↦
          let same : id ≡ other =
          get_or_from_slice_get units.ids.now c.args.at other c.index-units-at.result
          (id_of_valid units.ids.now units.outcomes.now c.args.at other valid) in
          let yes : IsTrue w.is_among.result =
          w.is_among.ensures.1 (rw (w.deref.ensures.value, same) among) in
          cc
    ])

pub returns-in-Some : goal.returns-in-Some
returns-in-Some g c =
    let units = c.args.units.now in
    let Waits = IsWaiting units.numbers.now units.key_slots.now in
    let id = get_or units.ids.now c.args.at c.index-units-at.result in
    let is = valid_of_found units.keys.now units.ids.now units.outcomes.now units.numbers.now c.requires.columns.stand c.args.at c.in-Some.key c.in-Some.ensures.0 in
    let same : id ≡ is.0 =
    get_or_from_slice_get units.ids.now c.args.at is.0 c.index-units-at.result
    (id_of_valid units.ids.now units.outcomes.now c.args.at is.0 (is.1, is.2)) in
    let yes : IsTrue c.is_among.result = cc in
    on_ok_four c.find.result
    (λ found stay only all target scanned.
    scan_finds (zip units.ids.now units.outcomes.now) Waits target c.args.at c.args.scan.now.wanted.items
    c.args.scan.now.needed.items scanned id
    (subst (IsValid (zip units.ids.now units.outcomes.now) c.args.at) (sym same) (is.1, is.2))
    (λ other valid. sym (get_or_from_slice_get units.ids.now c.args.at other c.index-units-at.result
    (id_of_valid units.ids.now units.outcomes.now c.args.at other valid)))
    (rw (c.deref.ensures.value) at (c.is_among.ensures.0 yes)) c.forget.new.wanted.items c.forget.ensures
    (c.in-Some.key, c.in-Some.ensures.0, c.in-Some.ensures.1) c.find.new.scan.wanted.items c.find.new.scan.needed.items found stay
    only all)
    c.find.ensures.found c.find.ensures.stay c.find.ensures.only c.find.ensures.all

pub returns-in-None : goal.returns-in-None
returns-in-None g c = λ target scanned.
    let units = c.args.units.now in
    let Waits = IsWaiting units.numbers.now units.key_slots.now in
    let id = get_or units.ids.now c.args.at c.index-units-at.result in
    let some = some_there (get_or units.numbers.now c.args.at c.index-units-at-2.result) c.is_none.result c.is_none.ensures c.if-is_none.false in
    let within : c.args.at < length units.numbers.now = omega (arith, c.requires.within, c.requires.columns.found_many) in
    let key_is : slice_get units.numbers.now c.args.at ≡ Some (Some some.0) =
    slice_get-get_or units.numbers.now c.args.at c.index-units-at-2.result within ∙ ap Some some.1 in
    let is = valid_of_found units.keys.now units.ids.now units.outcomes.now units.numbers.now c.requires.columns.stand c.args.at some.0 key_is in
    let same : id ≡ is.0 =
    get_or_from_slice_get units.ids.now c.args.at is.0 c.index-units-at.result
    (id_of_valid units.ids.now units.outcomes.now c.args.at is.0 (is.1, is.2)) in
    let yes : IsTrue c.is_among.result = cc in
    scan_forgets (zip units.ids.now units.outcomes.now) Waits target c.args.at c.args.scan.now.wanted.items
    c.args.scan.now.needed.items scanned id
    (subst (IsValid (zip units.ids.now units.outcomes.now) c.args.at) (sym same) (is.1, is.2))
    (λ other valid. sym (get_or_from_slice_get units.ids.now c.args.at other c.index-units-at.result
    (id_of_valid units.ids.now units.outcomes.now c.args.at other valid)))
    (rw (c.deref.ensures.value) at (c.is_among.ensures.0 yes)) c.forget.new.wanted.items c.forget.ensures
    c.in-None.ensures
