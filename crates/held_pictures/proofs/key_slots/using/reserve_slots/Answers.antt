use Rattle.std.proofs.Common.{sym, subst, Contains, Some, inl, inr, arith}
use Rattle.std.proofs.lemmas.List.{take_all}
use Rattle.held_pictures.proofs.Taking.{same_twice}
use Rattle.held_pictures.proofs.Turns.{named_more}
use Rattle.held_pictures.proofs.key_slots.using.reserve_slots.Goals as goal

pub loop-key-preserved : goal.loop-key-preserved
loop-key-preserved g c = record {
  same =
      same_twice c.args.key_slots.now c.loop-key.key_slots c.reserve_slot.new.key_slots c.loop-key.invariant.same c.reserve_slot.ensures.same;
  capacity = λ number among.
      elim (named_more c.args.keys.now c.loop-key.key-index c.key-item.result number c.loop-key-test.true c.key-item.is among) [
        | inl before ↦ omega (arith, c.loop-key.invariant.capacity number before, c.reserve_slot.ensures.longer)
        | inr is ↦ c.in_ok-reserve_slot.ensures.capacity number is
      ];
}

pub returns-clause-capacity : goal.returns-clause-capacity
returns-clause-capacity g c = λ number among.
    c.loop-key.invariant.capacity number
    (subst (λ keys. Contains keys (Some number)) (sym (take_all c.loop-key.key-index c.args.keys.now c.loop-key-test.false)) among)
