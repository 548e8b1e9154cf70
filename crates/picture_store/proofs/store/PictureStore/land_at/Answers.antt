use Rattle.std.proofs.Common.{◌≡◌, sym, subst, ◌∙◌, ◌<◌, Option, Some}
use Rattle.std.specs.Prelude.{IfSome}
use Rattle.picture_store.specs.Marks.{marked_for}
use Rattle.picture_store.proofs.Landed.{got_at, within_out}
use Rattle.picture_store.proofs.Filled.{landed, kept_filled}
use Rattle.picture_store.proofs.Looked.{behind_left, looked_landed}
use Rattle.picture_store.proofs.Scheduling.{scheduled_landed}
use Rattle.picture_store.proofs.Settled.{settled_landed}
use Rattle.picture_store.proofs.Viewed.{seen}
use Rattle.picture_store.proofs.store.PictureStore.land_at.Goals as goal

-- a schedule that stays was kept
if_ready_at : {S : Type 0} {P : Type 0} (kept old result : Option S) → kept ≡ old → IfSome result (λ s. (kept ≡ Some s) × P)
    → (s : S) → result ≡ Some s → (old ≡ Some s) × P
if_ready_at {S} {P} kept old result same if_ready s is =
    let both : (kept ≡ Some s) × P = subst (λ (o : Option S). IfSome o (λ s. (kept ≡ Some s) × P)) is if_ready in
    (sym same ∙ both.0, both.1)

pub after_landing-requires-clause-right : goal.after_landing-requires-clause-right
after_landing-requires-clause-right g c =
    let s = c.self.inside in
    let within = within_out s.keys s.jobs_out.items c.args.at (rw (← c.self.view_is) at c.requires.within) in
    let decoded = (rw (← c.self.view_is) at c.requires.decoded) (seen s.keys c.remove-job.result)
    (got_at (seen s.keys) s.jobs_out.items c.args.at c.remove-job.result within c.remove-job.ensures.value) in
    let filled = c.fill-landing.ensures.filled in
    (kept_filled s.keys s.ids.items s.outcomes.items s.numbers.items s.key_slots s.cache.pairs s.cache.capacity s.jobs_out.items s.jobs_given s.released.items (marked_for s.keys s.mark)
    c.self.invariant.kept c.args.at within c.remove-job.result c.remove-job.ensures.value c.args.picture decoded
    c.fill-landing.result c.fill-landing.new.key_slots c.remove-job.new.self.items c.remove-job.ensures.items filled).right

pub invariant_of-self : goal.invariant_of-self
invariant_of-self g c =
    let s = c.self.inside in
    let within = within_out s.keys s.jobs_out.items c.args.at (rw (← c.self.view_is) at c.requires.within) in
    let decoded = (rw (← c.self.view_is) at c.requires.decoded) (seen s.keys c.remove-job.result)
    (got_at (seen s.keys) s.jobs_out.items c.args.at c.remove-job.result within c.remove-job.ensures.value) in
    let filled = c.fill-landing.ensures.filled in
    record {
      kept =
          kept_filled s.keys s.ids.items s.outcomes.items s.numbers.items s.key_slots s.cache.pairs s.cache.capacity s.jobs_out.items s.jobs_given s.released.items (marked_for s.keys s.mark)
          c.self.invariant.kept c.args.at within c.remove-job.result c.remove-job.ensures.value c.args.picture decoded
          c.fill-landing.result c.fill-landing.new.key_slots c.remove-job.new.self.items c.remove-job.ensures.items filled;
      counted = λ number. c.fill-landing.ensures.uses number ∙ c.self.invariant.counted number;
      apart = λ number used. c.self.invariant.apart number (subst (λ n. 0 < n) (c.fill-landing.ensures.uses number) used);
      settled =
          settled_landed s.keys s.ids.items s.outcomes.items s.numbers.items s.key_slots s.cache.pairs s.jobs_out.items
          c.self.invariant.kept c.args.at c.remove-job.result c.remove-job.ensures.value _ c.fill-landing.result c.fill-landing.new.key_slots
          c.remove-job.new.self.items s.units_settled c.remove-job.ensures.items filled c.self.invariant.settled;
      searched =
          looked_landed s.keys s.ids.items s.outcomes.items s.numbers.items s.key_slots s.cache.pairs s.jobs_out.items
          c.self.invariant.kept c.args.at within c.remove-job.result c.remove-job.ensures.value _ c.fill-landing.result
          c.fill-landing.new.key_slots c.remove-job.new.self.items s.units_not_due c.searched_after-self-inside.result c.remove-job.ensures.items filled
          c.searched_after-self-inside.ensures.before c.searched_after-self-inside.ensures.front c.self.invariant.behind c.self.invariant.searched;
      behind =
          behind_left s.keys s.ids.items s.outcomes.items s.numbers.items s.key_slots s.cache.pairs s.jobs_out.items
          c.self.invariant.kept c.args.at within c.remove-job.result c.remove-job.ensures.value c.remove-job.new.self.items
          c.remove-job.ensures.items c.self.invariant.behind;
      scheduled =
          scheduled_landed s.keys s.ids.items s.outcomes.items s.numbers.items s.key_slots s.cache.pairs s.jobs_out.items
          c.self.invariant.kept c.args.at c.remove-job.result c.remove-job.ensures.value _ c.fill-landing.result
          c.fill-landing.new.key_slots c.remove-job.new.self.items c.remove-job.ensures.items filled s.schedule
          c.if_ready-schedule.result c.after_landing.result c.self.invariant.scheduled
          (if_ready_at c.take.result s.schedule c.if_ready-schedule.result c.take.ensures.value c.if_ready-schedule.ensures)
          (rw (c.deref.ensures.value, c.deref-2.ensures.value) at c.after_landing.ensures);
      marked = c.self.invariant.marked;
    }

pub returns : goal.returns
returns g c =
    let s = c.self.inside in
    let within = within_out s.keys s.jobs_out.items c.args.at (rw (← c.self.view_is) at c.requires.within) in
    let decoded = (rw (← c.self.view_is) at c.requires.decoded) (seen s.keys c.remove-job.result)
    (got_at (seen s.keys) s.jobs_out.items c.args.at c.remove-job.result within c.remove-job.ensures.value) in
    let filled = c.fill-landing.ensures.filled in
    rw (← c.self.view_is)
    (landed s.keys s.ids.items s.outcomes.items s.numbers.items s.key_slots s.cache.pairs s.cache.capacity s.jobs_out.items s.jobs_given s.released.items (marked_for s.keys s.mark)
    c.self.invariant.kept c.args.at within c.remove-job.result c.remove-job.ensures.value c.args.picture decoded
    c.fill-landing.result c.fill-landing.new.key_slots c.remove-job.new.self.items c.remove-job.ensures.items filled)
