use Rattle.std.proofs.Common.{refl, get_or}
use Rattle.picture_keys.proofs.Alike.{same_alike, unit_read}
use Rattle.picture_keys.proofs.changed_units.widening.is_same.Goals as goal

pub returns : goal.returns
returns c = λ unit other is also same.
    let units = c.args.units.now in
    let others = c.args.others.now in
    let number = get_or units.numbers.now c.args.place c.index-units-place-2.result in
    let another = get_or others.numbers.now c.args.index c.index-others-index-2.result in
    let first =
    unit_read units c.requires.units c.args.place c.deref.result.now c.index-units-place.result number c.index-units-place-2.result unit
    c.requires.place c.deref.ensures refl is in
    let second =
    unit_read others c.requires.others c.args.index c.deref-2.result.now c.index-others-index.result another c.index-others-index-2.result
    other c.requires.index c.deref-2.ensures refl also in
    same_alike c.are_alike.result unit other c.deref.result.now c.deref-2.result.now number another first second same c.are_alike.ensures
