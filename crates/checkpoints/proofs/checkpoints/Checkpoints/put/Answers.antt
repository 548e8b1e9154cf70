use Rattle.std.proofs.Common.{◌≡◌, ◌-◌, ◌∙◌, sym, suc, get_or, arith, refl, set, length-set}
use Rattle.checkpoints.proofs.Lengths.{same_length}
use Rattle.checkpoints.proofs.Fronts.{first_up_to}
use Rattle.checkpoints.proofs.Looks.{apart_is, lookup_apart, lookup_found, in_order}
use Rattle.checkpoints.proofs.Puts.{put_there, put_new, rising_insert, starts_insert}
use Rattle.checkpoints.proofs.checkpoints.Checkpoints.put.Goals as goal

pub unwrap-requires : goal.unwrap-requires
unwrap-requires g c =
    let ps = c.self.inside.places in
    let kept = c.self.invariant in
    let is = rw c.deref.ensures.value at c.places_up_to-past.ensures.value in
    let other = apart_is ps.items c.args.place c.places_up_to-past.result c.index.result.now kept.first kept.rising is c.index.ensures c.if-index-place.false in
    let none = lookup_apart ps.items c.self.inside.states.items c.args.place other in
    let some = rw (← c.self.view_is) at c.requires in
    c.insert.ensures.succeeds (omega (arith, some none, kept.places_fit))

pub unwrap-requires-else-index-place : goal.unwrap-requires-else-index-place
unwrap-requires-else-index-place g c =
    let ps = c.self.inside.places in
    let kept = c.self.invariant in
    let is = rw c.deref.ensures.value at c.places_up_to-past.ensures.value in
    let other = apart_is ps.items c.args.place c.places_up_to-past.result c.index.result.now kept.first kept.rising is c.index.ensures c.if-index-place.false in
    let none = lookup_apart ps.items c.self.inside.states.items c.args.place other in
    let some = rw (← c.self.view_is) at c.requires in
    c.insert-else-index-place.ensures.succeeds (omega (arith, some none, kept.states_fit))

pub overflow_sub-self : goal.overflow_sub-self
overflow_sub-self g c =
    let ps = c.self.inside.places in
    let kept = c.self.invariant in
    let is = rw c.deref.ensures.value at c.places_up_to-past.ensures.value in
    let other = apart_is ps.items c.args.place c.places_up_to-past.result c.index.result.now kept.first kept.rising is c.index.ensures c.if-index-place.false in
    let none = lookup_apart ps.items c.self.inside.states.items c.args.place other in
    let some = rw (← c.self.view_is) at c.requires in
    omega (arith, some none)

pub invariant_of-self-else-index-place : goal.invariant_of-self-else-index-place
invariant_of-self-else-index-place g c =
    let ps = c.self.inside.places in
    let ss = c.self.inside.states in
    let kept = c.self.invariant in
    let past = c.places_up_to-past.result in
    let is = rw c.deref.ensures.value at c.places_up_to-past.ensures.value in
    let other = apart_is ps.items c.args.place past c.index.result.now kept.first kept.rising is c.index.ensures c.if-index-place.false in
    let some = rw (← c.self.view_is) at c.requires in
    let spare = some (lookup_apart ps.items ss.items c.args.place other) in
    let first = first_up_to ps.items c.args.place kept.first in
    let n : past ≡ suc first.0 = is ∙ first.1 in
    let p = rw c.unwrap.ensures at c.insert.ensures.items in
    let p-len = rw c.unwrap.ensures at c.insert.ensures.len in
    let s-len = rw c.unwrap-else-index-place.ensures at c.insert-else-index-place.ensures.len in
    record {
      same = omega (arith, p-len, s-len, kept.same);
      first = rw (p, n) (starts_insert ps.items first.0 c.args.place kept.first);
      rising = rw p (rising_insert ps.items c.args.place past kept.rising (sym is) other);
      places_fit = omega (arith, p-len, kept.places_fit, c.insert.ensures.capacity, spare);
      states_fit = omega (arith, s-len, kept.states_fit, c.insert-else-index-place.ensures.capacity, spare);
    }

pub returns-then-index-place-clause-states : goal.returns-then-index-place-clause-states
returns-then-index-place-clause-states g c =
    let ps = c.self.inside.places in
    let ss = c.self.inside.states in
    let kept = c.self.invariant in
    let same = same_length ps ss c.self.inside.spare kept in
    let past = c.places_up_to-past.result in
    let is = rw c.deref.ensures.value at c.places_up_to-past.ensures.value in
    let first = first_up_to ps.items c.args.place kept.first in
    let n : past - 1 ≡ first.0 = omega (arith, is, first.1) in
    let there : get_or ps.items first.0 c.index.result.now ≡ c.args.place = sym (rw n at c.index.ensures) ∙ c.if-index-place.true in
    rw (← c.self.view_is, n)
    (sym (put_there ps.items ss.items c.args.place first.0 c.index.result.now c.args.state kept.rising same first.1 there))

pub returns-then-index-place-clause-spare : goal.returns-then-index-place-clause-spare
returns-then-index-place-clause-spare g c =
    let ps = c.self.inside.places in
    let ss = c.self.inside.states in
    let kept = c.self.invariant in
    let same = same_length ps ss c.self.inside.spare kept in
    let past = c.places_up_to-past.result in
    let is = rw c.deref.ensures.value at c.places_up_to-past.ensures.value in
    let first = first_up_to ps.items c.args.place kept.first in
    let n : past - 1 ≡ first.0 = omega (arith, is, first.1) in
    let there : get_or ps.items first.0 c.index.result.now ≡ c.args.place = sym (rw n at c.index.ensures) ∙ c.if-index-place.true in
    rw (← c.self.view_is, lookup_found ps.items ss.items c.args.place first.0 c.index.result.now c.args.state kept.rising same first.1 there) refl

pub returns-else-index-place-clause-states : goal.returns-else-index-place-clause-states
returns-else-index-place-clause-states g c =
    let ps = c.self.inside.places in
    let ss = c.self.inside.states in
    let kept = c.self.invariant in
    let same = same_length ps ss c.self.inside.spare kept in
    let past = c.places_up_to-past.result in
    let is = rw c.deref.ensures.value at c.places_up_to-past.ensures.value in
    let other = apart_is ps.items c.args.place past c.index.result.now kept.first kept.rising is c.index.ensures c.if-index-place.false in
    let p = rw c.unwrap.ensures at c.insert.ensures.items in
    let s = rw c.unwrap-else-index-place.ensures at c.insert-else-index-place.ensures.items in
    rw (← c.self.view_is, p, s)
    (sym (put_new ps.items ss.items c.args.place past c.args.state kept.rising same (sym is) other))

pub returns-else-index-place-clause-spare : goal.returns-else-index-place-clause-spare
returns-else-index-place-clause-spare g c =
    let ps = c.self.inside.places in
    let kept = c.self.invariant in
    let is = rw c.deref.ensures.value at c.places_up_to-past.ensures.value in
    let other = apart_is ps.items c.args.place c.places_up_to-past.result c.index.result.now kept.first kept.rising is c.index.ensures c.if-index-place.false in
    rw (← c.self.view_is, lookup_apart ps.items c.self.inside.states.items c.args.place other) refl

pub returns-then-index-place-clause-in_order : goal.returns-then-index-place-clause-in_order
returns-then-index-place-clause-in_order g c =
    let ps = c.self.inside.places in
    let ss = c.self.inside.states in
    let kept = c.self.invariant in
    let at = c.places_up_to-past.result - 1 in
    in_order ps.items (set ss.items at c.args.state) (length-set ss.items at c.args.state ∙ same_length ps ss c.self.inside.spare kept) kept.first kept.rising

pub returns-else-index-place-clause-in_order : goal.returns-else-index-place-clause-in_order
returns-else-index-place-clause-in_order g c =
    let kept = invariant_of-self-else-index-place g c in
    let places = c.insert.new.self in
    let states = c.insert-else-index-place.new.self in
    in_order places.items states.items (same_length places states (c.self.inside.spare - 1) kept) kept.first kept.rising
