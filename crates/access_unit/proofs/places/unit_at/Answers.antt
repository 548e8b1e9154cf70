-- One place has one NAL unit, and several have theirs.
use Rattle.access_unit.proofs.Pieces.{all_units}
use Rattle.access_unit.proofs.UnitsAt.{unit_alone}
use Rattle.access_unit.proofs.places.unit_at.Goals as goal

pub unit_of-requires : goal.unit_of-requires
unit_of-requires c =
    let alone = unit_alone c.args.text.now c.args.places.now (record { start = 0; end = 0 }) c.in-len1.len_at_least c.in-len1.len_below in
    let nal = rw c.as_slice-bytes.ensures at c.nal_at.ensures in
    rw (c.in_ok-clone-in-len1.ensures.cases, nal) (rw alone at c.requires.short)

pub nals_at-requires-clause-units : goal.nals_at-requires-clause-units
nals_at-requires-clause-units c =
    rw c.as_slice-bytes.ensures (all_units c.requires.short.has.rest _ c.requires.short.has.rest_is)

pub returns-in_ok-clone-in-len1-clause-ok : goal.returns-in_ok-clone-in-len1-clause-ok
returns-in_ok-clone-in-len1-clause-ok c =
    let alone = unit_alone c.args.text.now c.args.places.now (record { start = 0; end = 0 }) c.in-len1.len_at_least c.in-len1.len_below in
    let nal = rw c.as_slice-bytes.ensures at c.nal_at.ensures in
    rw alone (rw nal at c.unit_of.ensures.ok)
