use Rattle.std.proofs.Common.{◌≡◌, ◌<◌, ◌≤◌, ◌++◌, length, arith, ap, sym}
use Rattle.std.proofs.lemmas.List.{take_all}
use Rattle.request_core.specs.Requests.{requests_of}
use Rattle.request_core.proofs.Requested.{length-requests}
use Rattle.unit_printing.specs.Lines.{counts_text, request_lines}
use Rattle.unit_printing.proofs.Appending.{as_well, more}
use Rattle.unit_printing.proofs.PictureLines.{picture_lines-more}
use Rattle.unit_printing.proofs.lines.tails.put_picture.Goals as goal

pub loop-place-preserved : goal.loop-place-preserved
loop-place-preserved c =
    let slices = c.slices-slices.result.now in
    let picture = c.args.picture.now in
    let below : c.loop-place.place < length slices = omega arith in
    let item = c.index-slices-place in
    let longer = picture_lines-more c.args.id picture.frames picture.counts picture.id slices c.loop-place.place item.result below item.is in
    as_well (sym longer) (more c.loop-place.invariant c.in_ok-put_listed.ensures)

pub returns : goal.returns
returns c =
    let picture = c.args.picture.now in
    let all = requests_of picture.frames picture.counts picture.id picture.slices in
    let count : length all ≡ length picture.slices = length-requests picture.frames picture.counts picture.id picture.slices in
    let past : length all ≤ c.loop-place.place = omega (arith, c.loop-place-test.false, count, ap length c.slices-slices.ensures) in
    let counts = rw (c.slices-slices.ensures, c.counts.ensures) at c.in_ok-put_counts.ensures in
    let lines = rw (take_all c.loop-place.place all past) at (rw c.slices-slices.ensures at c.loop-place.invariant) in
    as_well (ap (λ n. counts_text picture.counts n ++ request_lines c.args.id 0 all) (sym count)) (more counts lines)
