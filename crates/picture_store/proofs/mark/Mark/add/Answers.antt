use Rattle.std.proofs.Common.{◌∷◌, ◌++◌, [], ◌∙◌, ap}
use Rattle.picture_store.proofs.Flags.{flags_added}
use Rattle.picture_store.proofs.mark.Mark.add.Goals as goal

pub invariant_of-self-2 : goal.invariant_of-self-2
invariant_of-self-2 c =
    let s = c.self.inside in
    flags_added s.keys.items s.flags.items c.args.key c.push_reserved.new.self.items c.flag.new.flags.items c.self.invariant
    (c.push_reserved.ensures.items ∙ ap (λ keys. keys ++ c.args.key ∷ []) c.reserve.ensures.items)
    (rw (c.number.ensures) at c.in_ok-flag.ensures.flagged)
