use Rattle.std.proofs.Common.{◌≡◌, rules}
use Rattle.std.specs.Prelude.{nat_lt, true}
use Rattle.stream_svg.proofs.end.write_in_slot.Goals as goal

pub returns-then-slot-grid : goal.returns-then-slot-grid
returns-then-slot-grid c =
    let shown = rw c.output_box.ensures.value at c.write_shown.ensures in
    let within : nat_lt c.args.slot c.args.grid.units ≡ true = search rules in
    rw within shown
