use Rattle.std.proofs.Common.{refl, sym, ap, subst, ◌∙◌}
use Rattle.std.proofs.lemmas.Option.{same_Some}
use Rattle.picture_store.specs.Stores.{OutValue}
use Rattle.picture_store.proofs.ByNumber.{job_there, job_lands}
use Rattle.picture_store.proofs.Landed.{foreign_for}
use Rattle.picture_store.proofs.store.PictureStore.land.Goals as goal

pub land_at-requires-clause-decoded : goal.land_at-requires-clause-decoded
land_at-requires-clause-decoded g c =
    let s = c.self.inside in
    let is = rw (c.deref.ensures.value, c.into_parts-number.ensures.number, c.into_parts-number.ensures.input) at c.in-Some.ensures in
    let there = job_there s.keys s.jobs_out.items c.in-Some.at c.args.finished is.0 is.1 is.2 in
    rw (← c.self.view_is) (λ job stands.
    subst (λ input. g.P.Decoded.IsDecoded input c.into_parts-number.result.2)
    (sym (there.2.1) ∙ ap (λ (j : OutValue g.row.P.Denot). j.input) (same_Some there.0 job (sym there.1 ∙ stands)))
    c.into_parts-number.ensures.decoded)

pub returns-in-Some : goal.returns-in-Some
returns-in-Some g c =
    let s = c.self.inside in
    let is = rw (c.deref.ensures.value, c.into_parts-number.ensures.number, c.into_parts-number.ensures.input) at c.in-Some.ensures in
    let there = job_there s.keys s.jobs_out.items c.in-Some.at c.args.finished is.0 is.1 is.2 in
    let lands = rw (← c.self.view_is) at c.land_at.ensures in
    rw (← c.self.view_is) (
      c.into_parts-number.result.2,
      c.into_parts-number.ensures.decoded,
      job_lands _ c.in-Some.at c.into_parts-number.result.2 c.args.finished there.0 there.1 there.2 c.land_at.result _ lands,
    )

pub returns : goal.returns
returns g c =
    let none = rw (c.deref.ensures.value, c.into_parts-number.ensures.number, c.into_parts-number.ensures.input) at c.in-None.ensures in
    rw (← c.self.view_is) (
      c.into_parts-number.result.2,
      c.into_parts-number.ensures.decoded,
      (foreign_for c.self.inside.keys c.self.inside.jobs_out.items c.args.finished none, refl),
    )
