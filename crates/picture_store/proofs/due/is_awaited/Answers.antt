use Rattle.held_pictures.specs.KeySlots.{place_at}
use Rattle.held_pictures.proofs.Held.{awaited_told}
use Rattle.picture_store.proofs.due.is_awaited.Goals as goal

pub returns : goal.returns
returns g c = rw (c.is_awaited.ensures) (awaited_told (place_at c.args.key_slots.now c.args.key))
