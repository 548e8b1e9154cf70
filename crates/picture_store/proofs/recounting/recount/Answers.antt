use Rattle.std.proofs.Common.{arith}
use Rattle.held_pictures.specs.KeySlots.{numbers_held}
use Rattle.std.proofs.lemmas.List.Sorted.{IsPermutation-append_left, IsPermutation-trans}
use Rattle.picture_store.proofs.Using.{held_before, recounted}
use Rattle.picture_store.proofs.recounting.recount.Goals as goal

pub let_go_all-requires-clause-enough : goal.let_go_all-requires-clause-enough
let_go_all-requires-clause-enough g c = λ number.
    omega (arith, c.requires.enough number, (c.take_up_all.ensures.up number).uses)

pub returns-clause-recounted : goal.returns-clause-recounted
returns-clause-recounted g c = λ front goes back countable.
    let up = c.take_up_all.ensures.up in
    let gone = rw (c.take_up_all.ensures.capacity) at
    c.let_go_all.ensures.gone (numbers_held c.args.key_slots.now)
    (held_before c.args.key_slots.now c.take_up_all.new.key_slots c.args.cache.now.pairs front goes back c.args.later.now
    c.args.leaving.now countable up) in
    recounted c.args.key_slots.now c.take_up_all.new.key_slots c.args.cache.now.pairs front goes back c.args.later.now
    c.args.leaving.now countable up c.take_up_all.new.cache.pairs c.take_up_all.ensures.left c.take_up_all.ensures.those
    c.let_go_all.new.key_slots c.let_go_all.ensures.uses c.let_go_all.ensures.stay c.args.cache.now.capacity
    c.let_go_all.new.cache.pairs gone.0 gone.1 c.let_go_all.result gone.2 c.let_go_all.ensures.those

pub returns-clause-accounts : goal.returns-clause-accounts
returns-clause-accounts g c =
    IsPermutation-trans _ _ _
    (IsPermutation-append_left c.args.released.now.items _ _ (c.take_up_all.ensures.accounts c.requires.apart))
    c.let_go_all.ensures.accounts
