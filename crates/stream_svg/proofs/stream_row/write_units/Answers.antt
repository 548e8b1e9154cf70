use Rattle.std.proofs.Common.{◌<◌, ◌≤◌, length, arith}
use Rattle.std.specs.List.{zip}
use Rattle.std.proofs.lemmas.List.{take_all}
use Rattle.stream_svg.specs.Rows.{unit_text}
use Rattle.stream_svg.proofs.Growing.{texts-next}
use Rattle.stream_svg.proofs.Zipped.{zip-read, zip-short, zip-within}
use Rattle.stream_svg.proofs.stream_row.write_units.Goals as goal

pub loop-place-preserved : goal.loop-place-preserved
loop-place-preserved c =
    let units = c.args.units.now in
    let captions = c.args.captions.now in
    let place = c.loop-place.place in
    let unit = c.index-units-place.result in
    let caption = c.index-captions-place.result in
    let here : place < length units = omega (arith, c.loop-place-test.true, c.requires.captions) in
    texts-next (unit_text c.args.grid units) (zip units captions) place (unit, caption) _ _ _
    (zip-within units captions place here c.loop-place-test.true)
    (zip-read units captions place unit caption here c.loop-place-test.true c.index-units-place.is c.index-captions-place.is)
    c.loop-place.invariant c.in_ok-write_unit.ensures

pub returns : goal.returns
returns c =
    let pairs = zip c.args.units.now c.args.captions.now in
    let all : length pairs ≤ c.loop-place.place = omega (arith, c.loop-place-test.false, zip-short c.args.units.now c.args.captions.now) in
    rw (take_all c.loop-place.place pairs all) at c.loop-place.invariant
