use Rattle.std.proofs.Common.{◌≡◌, ◌<◌, ◌+◌, length, refl, arith}
use Rattle.unit_printing.proofs.SaidLines.{said-next}
use Rattle.unit_printing.proofs.json.printing.print_units.Goals as goal

pub loop-place-preserved : goal.loop-place-preserved
loop-place-preserved g c end rest =
    let place = c.loop-place.place in
    let outcomes = c.args.outcomes.now in
    let here : place < length outcomes = c.loop-place-test.true in
    let there : place < length c.args.positions.now = omega (arith, c.requires.positions, here) in
    let known : place < length c.args.doubts.now = omega (arith, c.requires.doubts, here) in
    let is = c.new-id.ensures in
    let id_is : c.new-id.result ≡ place + 1 = omega (arith, is) in
    let said = rw c.in_ok-line.ensures at c.in_ok-print_line.ensures.ok in
    c.loop-place.invariant end (said-next g.J.Encoder.says c.args.form.mode outcomes c.args.positions.now c.args.doubts.now place
    c.new-id.result _ _ _ _ _ end here there known id_is c.index-outcomes-place.is refl c.index-doubts-place.is said rest)
