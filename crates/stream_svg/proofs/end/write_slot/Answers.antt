use Rattle.std.proofs.Common.{◌≡◌, Some, length, refl, slice_get}
use Rattle.std.proofs.lemmas.Option.{slice_get_read}
use Rattle.stream_svg.proofs.end.write_slot.Goals as goal

pub returns-in-Some : goal.returns-in-Some
returns-in-Some c =
    let units = c.args.units.now in
    let place = c.args.shown.place in
    let unit = c.in-Some.unit.now in
    let read = c.in-Some.ensures.lookup in
    let there : slice_get units place ≡ Some unit = slice_get_read units (length units) place unit refl read.3.0 read.1 in
    rw there c.write_in_slot.ensures
