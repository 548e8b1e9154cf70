use Rattle.std.proofs.Common.{◌≡◌, subst, ◌+◌, ◌-◌, [], vec_len, inl, inr, arith}
use Rattle.std.specs.List.{zip}
use Rattle.std.proofs.lemmas.List.{nil_from_length}
use Rattle.held_pictures.specs.Held.{IsWaiting}
use Rattle.held_pictures.specs.Scanned.{IsScanned}
use Rattle.held_pictures.proofs.Closing.{all_found}
use Rattle.held_pictures.proofs.Wanting.{no_items}
use Rattle.held_pictures.proofs.key_slots.scan.go_down.Goals as goal

pub loop-at-preserved : goal.loop-at-preserved
loop-at-preserved g c =
    let units = c.args.units.now in
    let one : c.loop-at.at ≡ c.loop-at.at - 1 + 1 = omega (arith, c.loop-at-test.true) in
    record {
      within = omega (arith, c.loop-at.invariant.within);
      scanned = λ target begun.
          c.in_ok-meet.ensures target
          (subst (λ n. IsScanned (zip units.ids.now units.outcomes.now) (IsWaiting units.numbers.now units.key_slots.now) target n
          c.loop-at.scan.wanted.items c.loop-at.scan.needed.items) one (c.loop-at.invariant.scanned target begun));
    }

pub returns-else-not-is_empty : goal.returns-else-not-is_empty
returns-else-not-is_empty g c = λ target begun.
    let units = c.args.units.now in
    let zero = no_items (vec_len c.loop-at.scan.wanted) c.is_empty.result c.is_empty.ensures c.if-not-is_empty.false in
    let none : c.loop-at.scan.wanted.items ≡ [] =
    nil_from_length c.loop-at.scan.wanted.items (omega (arith, zero, c.loop-at.scan.wanted.ok.0)) in
    all_found (zip units.ids.now units.outcomes.now) (IsWaiting units.numbers.now units.key_slots.now) target c.loop-at.at
    c.loop-at.scan.wanted.items c.loop-at.scan.needed.items (inr none) (c.loop-at.invariant.scanned target begun)

pub returns-after-loop-at : goal.returns-after-loop-at
returns-after-loop-at g c = λ target begun.
    let units = c.args.units.now in
    all_found (zip units.ids.now units.outcomes.now) (IsWaiting units.numbers.now units.key_slots.now) target c.loop-at.at
    c.loop-at.scan.wanted.items c.loop-at.scan.needed.items (inl (omega (arith, c.loop-at-test.false)))
    (c.loop-at.invariant.scanned target begun)
