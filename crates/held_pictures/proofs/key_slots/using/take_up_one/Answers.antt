use Rattle.held_pictures.proofs.Apart.{taken_accounts}
use Rattle.held_pictures.proofs.key_slots.using.take_up_one.Goals as goal

pub returns-clause-accounts : goal.returns-clause-accounts
returns-clause-accounts g c =
    taken_accounts c.args.key_slots.now c.take_up.new.self c.args.cache.now.pairs c.take_one-cached.new.cache.pairs c.args.key
    c.take_one-cached.result c.requires.capacity c.take_one-cached.ensures.value c.take_one-cached.ensures.accounts c.take_up.ensures
