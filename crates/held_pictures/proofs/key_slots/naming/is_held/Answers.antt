use Rattle.held_pictures.specs.KeySlots.{place_at}
use Rattle.held_pictures.proofs.Held.{held_told}
use Rattle.held_pictures.proofs.key_slots.naming.is_held.Goals as goal

pub returns : goal.returns
returns g c = rw (c.is_held.ensures) (held_told (place_at c.args.key_slots.now c.args.key))
