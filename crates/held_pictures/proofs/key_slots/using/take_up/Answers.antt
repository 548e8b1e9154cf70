use Rattle.std.proofs.Common.{sym, subst, ap, ◌∙◌, Some}
use Rattle.std.specs.Map.{keys_of}
use Rattle.std.proofs.lemmas.List.Sorted.{IsPermutation-refl}
use Rattle.held_pictures.specs.Accounts.{pictures_kept}
use Rattle.held_pictures.specs.Counting.{once_at}
use Rattle.held_pictures.specs.KeySlots.{IsTakenUp}
use Rattle.held_pictures.proofs.Taking.{none_up}
use Rattle.held_pictures.proofs.Turns.{left_named, none_named}
use Rattle.held_pictures.proofs.key_slots.using.take_up.Goals as goal

pub returns-in-Some-clause-up : goal.returns-in-Some-clause-up
returns-in-Some-clause-up g c = λ number.
    subst (λ key. IsTakenUp c.args.key_slots.now c.args.cache.now.pairs (once_at number key) c.take_up_one.new.key_slots number)
    (sym c.in-Some.is) (c.take_up_one.ensures.up number)

pub returns-in-Some-clause-left : goal.returns-in-Some-clause-left
returns-in-Some-clause-left g c =
    left_named c.args.key c.in-Some.key (keys_of c.args.cache.now.pairs) (keys_of c.take_up_one.new.cache.pairs)
    c.in-Some.is c.take_up_one.ensures.left

pub returns-in-Some-clause-others : goal.returns-in-Some-clause-others
returns-in-Some-clause-others g c = λ number apart.
    c.take_up_one.ensures.others number (λ same. apart (c.in-Some.is ∙ ap Some (sym same)))

pub returns-in_default-clause-up : goal.returns-in_default-clause-up
returns-in_default-clause-up g c = λ number.
    subst (λ key. IsTakenUp c.args.key_slots.now c.args.cache.now.pairs (once_at number key) c.args.key_slots.now number)
    (sym c.in_default.is) (none_up c.args.key_slots.now c.args.cache.now.pairs number)

pub returns-in_default-clause-left : goal.returns-in_default-clause-left
returns-in_default-clause-left g c =
    none_named c.args.key (keys_of c.args.cache.now.pairs) c.in_default.is

pub returns-in_default-clause-accounts : goal.returns-in_default-clause-accounts
returns-in_default-clause-accounts g c = λ apart. IsPermutation-refl (pictures_kept c.args.key_slots.now c.args.cache.now.pairs)
