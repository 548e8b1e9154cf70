use Rattle.seat_books.proofs.Checked.{IsReplayed-next}
use Rattle.seat_books.proofs.replay.Replay.make.Goals as goal

pub returns-clause-follows : goal.returns-clause-follows
returns-clause-follows c = λ journal books seat earlier tabled replayed stands.
    IsReplayed-next journal books seat earlier c.args.self.now c.pass_drops.new.self c.make_entry.new.session c.clear_cache.new.self
    c.args.edits.now c.in_ok-ids.ids.items c.args.drops.now tabled replayed stands c.in_ok-ids.ensures.makes
    c.in_ok-ids.ensures.refits c.numbers.ensures.numbered c.clear_cache.ensures c.pass_drops.ensures.session
    c.pass_drops.ensures.own c.in_ok-pass_drops.ensures.gone c.in_ok-pass_drops.ensures.ready

pub returns-clause-makes : goal.returns-clause-makes
returns-clause-makes c =
    rw (c.pass_drops.ensures.session, c.clear_cache.ensures) (record {
      made = c.in_ok-ids.ensures.makes.made;
      journaled = c.in_ok-ids.ensures.makes.journaled;
    })
