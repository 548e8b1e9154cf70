use Rattle.std.proofs.Common.{arith}
use Rattle.std.proofs.lemmas.Map.Made.{keys_of-zip}
use Rattle.checkpoints.proofs.Lengths.{same_length}
use Rattle.checkpoints.proofs.Looks.{in_order}
use Rattle.checkpoints.proofs.Shifts.{all_movable, rising_moved, starts_moved, zip_moved}
use Rattle.checkpoints.proofs.checkpoints.Checkpoints.shift.Goals as goal

pub move_places-requires : goal.move_places-requires
move_places-requires g c =
    let ps = c.self.inside.places in
    let ss = c.self.inside.states in
    let kept = c.self.invariant in
    let same = same_length ps ss c.self.inside.spare kept in
    let can = rw (← c.self.view_is, keys_of-zip ps.items ss.items same) at c.requires.apart in
    all_movable c.args.from c.args.change ps.items c.requires.above kept.first can

pub invariant_of-self : goal.invariant_of-self
invariant_of-self g c =
    let ps = c.self.inside.places in
    let ss = c.self.inside.states in
    let kept = c.self.invariant in
    let same = same_length ps ss c.self.inside.spare kept in
    let can = rw (← c.self.view_is, keys_of-zip ps.items ss.items same) at c.requires.apart in
    record {
      same = omega (arith, kept.same, c.move_places.ensures.len);
      first = rw c.move_places.ensures.items (starts_moved c.args.from c.args.change ps.items c.requires.above kept.first);
      rising = rw c.move_places.ensures.items (rising_moved c.args.from c.args.change ps.items c.requires.above kept.first can kept.rising);
      places_fit = omega (arith, kept.places_fit, c.move_places.ensures.len, c.move_places.ensures.capacity);
      states_fit = kept.states_fit;
    }

pub returns-clause-after : goal.returns-clause-after
returns-clause-after g c =
    rw (← c.self.view_is, c.move_places.ensures.items, zip_moved c.args.from c.args.change c.self.inside.places.items c.self.inside.states.items)

pub returns-clause-in_order : goal.returns-clause-in_order
returns-clause-in_order g c =
    let kept = invariant_of-self g c in
    let places = c.move_places.new.places in
    let states = c.self.inside.states in
    in_order places.items states.items (same_length places states c.self.inside.spare kept) kept.first kept.rising
