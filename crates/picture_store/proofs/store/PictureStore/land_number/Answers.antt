use Rattle.std.proofs.Common.{refl, sym, subst, Option}
use Rattle.std.specs.Prelude.{IfSome}
use Rattle.decode_jobs.specs.Inputs.{InputValue}
use Rattle.picture_store.proofs.ByNumber.{input_there, none_numbered, numbered_there, number_lands}
use Rattle.picture_store.proofs.store.PictureStore.land_number.Goals as goal

pub land_at-requires-clause-decoded : goal.land_at-requires-clause-decoded
land_at-requires-clause-decoded g c =
    let s = c.self.inside in
    let first = rw c.deref.ensures.value at c.in-Some.ensures.value in
    let owed = rw (← c.self.view_is) at c.requires in
    rw (← c.self.view_is) (λ job stands.
    subst (λ (o : Option (InputValue g.row.P.Denot)). IfSome o (λ input. g.P.Decoded.IsDecoded input c.args.picture))
    (input_there s.keys s.jobs_out.items c.args.number c.in-Some.at job stands (sym first)) owed)

pub returns-in-Some : goal.returns-in-Some
returns-in-Some g c =
    let s = c.self.inside in
    let first = rw c.deref.ensures.value at c.in-Some.ensures.value in
    let within = rw c.deref.ensures.value at c.in-Some.ensures.inside in
    let there = numbered_there s.keys s.jobs_out.items c.args.number c.in-Some.at within (sym first) in
    let lands = rw (← c.self.view_is) at c.land_at.ensures in
    rw (← c.self.view_is)
    (number_lands _ c.in-Some.at c.args.picture c.args.number there.0 there.1 there.2 c.land_at.result _ lands)

pub returns-in-None : goal.returns-in-None
returns-in-None g c =
    let s = c.self.inside in
    let none = rw c.deref.ensures.value at c.in-None.ensures.value in
    rw (← c.self.view_is) (none_numbered s.keys s.jobs_out.items c.args.number (sym none), refl)
