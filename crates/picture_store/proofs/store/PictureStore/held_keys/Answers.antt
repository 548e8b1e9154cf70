use Rattle.picture_store.proofs.Ready.{held_once}
use Rattle.picture_store.proofs.store.PictureStore.held_keys.Goals as goal

pub returns-clause-once : goal.returns-clause-once
returns-clause-once g c =
    let s = c.self.inside in
    rw (← c.self.view_is) (held_once s.keys s.key_slots c.self.invariant.kept.right)
