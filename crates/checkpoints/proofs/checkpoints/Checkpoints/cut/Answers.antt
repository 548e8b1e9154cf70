use Rattle.std.proofs.Common.{◌≡◌, ◌≤◌, ◌∙◌, sym, ap, suc, max, take, drop, ◌++◌, length, arith}
use Rattle.checkpoints.specs.Search.{places_below}
use Rattle.checkpoints.proofs.Lengths.{same_length}
use Rattle.checkpoints.proofs.Looks.{in_order}
use Rattle.checkpoints.proofs.Fronts.{first_up_to}
use Rattle.checkpoints.proofs.Cuts.{cut_is, length_cut, length_cut_le, rising_cut, starts_cut}
use Rattle.checkpoints.proofs.checkpoints.Checkpoints.cut.Goals as goal

pub invariant_of-self : goal.invariant_of-self
invariant_of-self g c =
    let ps = c.self.inside.places in
    let ss = c.self.inside.states in
    let kept = c.self.invariant in
    let same = same_length ps ss c.self.inside.spare kept in
    let a = c.places_up_to-first.result in
    let b = c.max-past.result in
    let le : a ≤ b = omega (arith, c.max-past.ensures) in
    let is = rw c.deref.ensures.value at c.places_up_to-first.ensures.value in
    let first = first_up_to ps.items c.args.low kept.first in
    let some : a ≡ suc first.0 = is ∙ first.1 in
    let places = c.remove_range.new.items in
    let states = c.remove_range-2.new.items in
    let as_many = length_cut a b ps.items ss.items same in
    let fewer = length_cut_le a b ps.items le in
    let p : length places.items ≡ length (take a ps.items ++ drop b ps.items) = ap length c.remove_range.ensures.items in
    let s : length states.items ≡ length (take a ss.items ++ drop b ss.items) = ap length c.remove_range-2.ensures.items in
    record {
      same = omega (arith, as_many, p, s, places.ok.0, states.ok.0);
      first = rw (c.remove_range.ensures.items, some) (starts_cut first.0 b ps.items kept.first);
      rising = rw c.remove_range.ensures.items (rising_cut a b ps.items le kept.rising);
      places_fit = omega (arith, fewer, p, places.ok.0, ps.ok.0, kept.places_fit, c.remove_range.ensures.capacity);
      states_fit = omega (arith, fewer, as_many, same, s, states.ok.0, ss.ok.0, kept.states_fit, c.remove_range-2.ensures.capacity);
    }

pub returns-clause-after : goal.returns-clause-after
returns-clause-after g c =
    let ps = c.self.inside.places in
    let ss = c.self.inside.states in
    let kept = c.self.invariant in
    let same = same_length ps ss c.self.inside.spare kept in
    let is = rw c.deref.ensures.value at c.places_up_to-first.ensures.value in
    let below = rw c.deref-2.ensures.value at c.places_below.ensures.value in
    let most : max (places_below ps.items c.args.high) c.places_up_to-first.result ≡ c.max-past.result = sym (rw below at c.max-past.ensures) in
    let cut = cut_is ps.items ss.items c.args.low c.args.high c.places_up_to-first.result c.max-past.result kept.rising same (sym is) most in
    rw (← c.self.view_is, c.remove_range.ensures.items, c.remove_range-2.ensures.items, cut)

pub returns-clause-in_order : goal.returns-clause-in_order
returns-clause-in_order g c =
    let kept = invariant_of-self g c in
    let places = c.remove_range.new.items in
    let states = c.remove_range-2.new.items in
    in_order places.items states.items (same_length places states c.self.inside.spare kept) kept.first kept.rising
