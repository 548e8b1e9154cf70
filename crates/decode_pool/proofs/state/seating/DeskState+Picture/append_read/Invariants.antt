use Rattle.std.proofs.Common.{◌≡◌, ◌+◌, length}
use Rattle.std.specs.Vec.Iter.{into_iter_items}
use Rattle.stand_in_session.specs.Machines.{Machine}
use Rattle.decode_pool.specs.declared.appending.Appended.{Appended}
use Rattle.decode_pool.specs.declared.seat.Seat.{Seat}
use Rattle.decode_pool.specs.Appends.{AppendsOn}
use Rattle.decode_pool.proofs.state.seating.DeskState+Picture.append_read.Given as goal

abbrev pub invariant-loop-unit : goal.invariant-loop-unit
invariant-loop-unit l =
    ((appended : Appended) (to : Machine) (new : Seat)
    → AppendsOn l.inserted l.self.session l.seat (into_iter_items l.unit-iterator) appended to new
    → AppendsOn 0 l.initial.self.session l.initial.seat l.fn.units.items appended to new)
    × (l.inserted + length (into_iter_items l.unit-iterator) ≡ length l.fn.units.items)
    × (l.self.status ≡ l.initial.self.status)
