use Rattle.std.proofs.Common.{◌≡◌, sym, subst, ◌∙◌}
use Rattle.std.proofs.lemmas.Option.{same_Some}
use Rattle.decode_jobs.specs.KeyMaps.{tree_of}
use Rattle.picture_store.specs.Due.{AreHeld}
use Rattle.picture_store.specs.Stored.{keys_for}
use Rattle.picture_store.specs.Stores.{IsReady}
use Rattle.held_pictures.specs.KeySlots.{numbers_held}
use Rattle.picture_store.proofs.Ready.{is_ready, are_held}
use Rattle.picture_store.proofs.due.is_ready.Goals as goal

pub returns-in-Some : goal.returns-in-Some
returns-in-Some g c =
    let keys = c.args.keys.now in
    let key_slots = c.args.key_slots.now in
    let node = c.in-Some.node.now in
    let is_node = c.in-Some.ensures in (
      λ yes. (
        tree_of keys node,
        is_node.tree,
        is_ready keys key_slots c.requires node.content node.entries is_node.live
            (subst (λ entries. AreHeld key_slots entries) c.entries.ensures (c.are_held.ensures.0 yes)),
      ),
      λ ready.
          let same : ready.0 ≡ tree_of keys node = same_Some ready.0 (tree_of keys node) (sym ready.1 ∙ is_node.tree) in
          c.are_held.ensures.1
          (subst (λ entries. AreHeld key_slots entries) (sym c.entries.ensures)
          (are_held keys key_slots c.requires node.content node.entries is_node.live
          (subst (λ key. IsReady (keys_for keys (numbers_held key_slots)) key) same ready.2))),
    )
