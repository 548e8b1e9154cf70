use Rattle.std.proofs.Common.{ap, subst, ◌∷◌, ◌++◌, Option}
use Rattle.std.specs.Prelude.{IsPermutation}
use Rattle.std.specs.Option.{is_some, option_to_list}
use Rattle.std.proofs.lemmas.List.Sorted.{IsPermutation-sym}
use Rattle.held_pictures.specs.KeySlots.{picture_held, pictures_held}
use Rattle.held_pictures.proofs.Slots.{used_some}
use Rattle.picture_store.proofs.filling.fill.Goals as goal

pub returns-clause-filled : goal.returns-clause-filled
returns-clause-filled g c =
    let awaited = c.is_awaited.ensures.0 c.if-not-is_awaited.false in
    let used = used_some c.args.key_slots.now c.args.key (ap is_some awaited) in (
      awaited,
      c.fill.ensures.key_slots used,
      IsPermutation-sym _ _
          (subst (λ (place : Option (Option g.row.P.Denot)).
          IsPermutation (option_to_list (picture_held place) ++ pictures_held c.fill.new.self) (c.args.picture ∷ pictures_held c.args.key_slots.now))
          awaited (c.fill.ensures.accounts used)),
    )
