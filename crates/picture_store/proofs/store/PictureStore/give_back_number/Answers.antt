use Rattle.std.proofs.Common.{refl, sym}
use Rattle.picture_store.proofs.ByNumber.{none_numbered, numbered_there}
use Rattle.picture_store.proofs.store.PictureStore.give_back_number.Goals as goal

pub returns-in-Some : goal.returns-in-Some
returns-in-Some g c =
    let s = c.self.inside in
    let first = rw c.deref.ensures.value at c.in-Some.ensures.value in
    let within = rw c.deref.ensures.value at c.in-Some.ensures.inside in
    let there = numbered_there s.keys s.jobs_out.items c.args.number c.in-Some.at within (sym first) in
    let less = rw (← c.self.view_is) at c.take_back.ensures in
    rw (← c.self.view_is) (c.in-Some.at, there.0, there.1, there.2, less)

pub returns-in-None : goal.returns-in-None
returns-in-None g c =
    let s = c.self.inside in
    let none = rw c.deref.ensures.value at c.in-None.ensures.value in
    rw (← c.self.view_is) (none_numbered s.keys s.jobs_out.items c.args.number (sym none), refl)
