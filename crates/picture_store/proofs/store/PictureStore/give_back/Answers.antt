use Rattle.std.proofs.Common.{refl}
use Rattle.picture_store.proofs.ByNumber.{job_there}
use Rattle.picture_store.proofs.Landed.{foreign_for}
use Rattle.picture_store.proofs.store.PictureStore.give_back.Goals as goal

pub returns-in-Some : goal.returns-in-Some
returns-in-Some g c =
    let s = c.self.inside in
    let is = rw (c.deref.ensures.value, c.into_parts-number.ensures) at c.in-Some.ensures in
    let there = job_there s.keys s.jobs_out.items c.in-Some.at c.args.job is.0 is.1 is.2 in
    let less = rw (← c.self.view_is) at c.take_back.ensures in
    rw (← c.self.view_is) (c.in-Some.at, there.0, (record { stands = there.1; is = there.2 }), less)

pub returns : goal.returns
returns g c =
    let none = rw (c.deref.ensures.value, c.into_parts-number.ensures) at c.in-None.ensures in
    rw (← c.self.view_is) (foreign_for c.self.inside.keys c.self.inside.jobs_out.items c.args.job none, refl)
