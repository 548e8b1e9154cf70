use Rattle.std.proofs.Common.{◌≡◌, ◌∙◌, ◌++◌, ap, sym, subst, None, Some}
use Rattle.std.specs.Prelude.{slice_set, is_some, IsPermutation}
use Rattle.std.specs.Option.{option_to_list}
use Rattle.held_pictures.specs.declared.key_slots.slots.Slot.{Slot}
use Rattle.held_pictures.specs.KeySlots.{picture_held, pictures_held, place_at}
use Rattle.held_pictures.proofs.Bags.{filled}
use Rattle.held_pictures.proofs.Slots.{used_some}
use Rattle.held_pictures.proofs.key_slots.slots.KeySlots.empty.Goals as goal

pub returns-clause-accounts : goal.returns-clause-accounts
returns-clause-accounts g c =
    let old = c.args.self.now in
    let place : place_at old c.args.key ≡ Some c.in_ok-held.held = sym c.get.ensures ∙ c.in_ok-held.was in
    subst (λ place. IsPermutation (option_to_list (picture_held place) ++ pictures_held c.set.new.self) (pictures_held old)) place
    (filled old c.set.new.self c.args.key None (used_some old c.args.key (ap is_some place))
    (c.set.ensures
    ∙ ap (λ (slot : Slot g.row.P.Denot). slice_set old c.args.key (record { uses = slot.uses; picture = None })) c.slot-uses.ensures))
