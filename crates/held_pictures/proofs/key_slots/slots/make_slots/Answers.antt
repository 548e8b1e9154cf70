use Rattle.std.proofs.Common.{refl, sym, subst, ap, ◌∷◌, [], length, arith}
use Rattle.std.proofs.lemmas.List.{length-append}
use Rattle.held_pictures.specs.KeySlots.{AreSame, no_slot}
use Rattle.held_pictures.proofs.Slots.{pushed_same}
use Rattle.held_pictures.proofs.Taking.{same_twice}
use Rattle.held_pictures.proofs.key_slots.slots.make_slots.Goals as goal

pub loop-slots-init : goal.loop-slots-init
loop-slots-init g c = record { same = record { slots = λ number. refl; held = refl; pictures = refl }; longer = omega arith }

pub loop-slots-preserved : goal.loop-slots-preserved
loop-slots-preserved g c = record {
  same =
      same_twice c.args.slots.now.items c.loop-slots.slots.items c.push.new.self.items c.loop-slots.invariant.same
      (subst (AreSame c.loop-slots.slots.items) (sym c.in_ok-push.ensures.items) (pushed_same c.loop-slots.slots.items));
  longer =
      omega (
        arith,
        c.loop-slots.invariant.longer,
        ap length c.in_ok-push.ensures.items,
        length-append c.loop-slots.slots.items (no_slot ∷ []),
      );
}
