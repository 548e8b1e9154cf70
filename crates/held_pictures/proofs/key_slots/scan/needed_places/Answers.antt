use Rattle.std.proofs.Common.{subst, ℕ, List, Contains, inl, inr}
use Rattle.std.specs.List.{zip}
use Rattle.held_pictures.proofs.Members.{nowhere}
use Rattle.held_pictures.specs.Held.{IsWaiting}
use Rattle.held_pictures.proofs.Closing.{none_needed}
use Rattle.held_pictures.proofs.Scans.{scan_begins}
use Rattle.held_pictures.proofs.key_slots.scan.needed_places.Goals as goal

pub returns-in_default : goal.returns-in_default
returns-in_default g c =
    let units = c.args.units.now in
    rw c.new.ensures.items
    (none_needed (zip units.ids.now units.outcomes.now) (IsWaiting units.numbers.now units.key_slots.now) c.args.target c.in_default.ensures)

pub returns : goal.returns
returns g c =
    let units = c.args.units.now in
    let found = rw c.new-3.ensures.items at c.in_ok-find.ensures.found in
    c.in_ok-go_down.ensures c.args.target
    (scan_begins (zip units.ids.now units.outcomes.now) (IsWaiting units.numbers.now units.key_slots.now) c.args.target
    c.find.new.scan.wanted.items c.find.new.scan.needed.items (c.in-Some.key, c.in-Some.ensures.0, c.in-Some.ensures.1) found
    (λ id is. elim (c.in_ok-find.ensures.only id is) [
      | inl none ↦ absurd (nowhere id (subst (λ (ids : List ℕ). Contains ids id) c.new-2.ensures.items none))
      | inr lists ↦ lists
    ])
    c.in_ok-find.ensures.all)
