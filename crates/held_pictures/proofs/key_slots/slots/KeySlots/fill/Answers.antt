use Rattle.std.proofs.Common.{◌∙◌, ap, Some}
use Rattle.std.specs.Prelude.{slice_set}
use Rattle.held_pictures.specs.declared.key_slots.slots.Slot.{Slot}
use Rattle.held_pictures.proofs.Bags.{filled}
use Rattle.held_pictures.proofs.key_slots.slots.KeySlots.fill.Goals as goal

pub returns-clause-accounts : goal.returns-clause-accounts
returns-clause-accounts g c = λ used.
    filled c.args.self.now c.set.new.self c.args.key (Some c.args.picture) used
    (c.set.ensures
    ∙ ap (λ (slot : Slot g.row.P.Denot). slice_set c.args.self.now c.args.key (record { uses = slot.uses; picture = Some c.args.picture }))
    c.slot-uses.ensures)
