use Rattle.std.proofs.Common.{◌≡◌, ◌∙◌, List, Some, ap, subst, sym}
use Rattle.std.specs.List.{filter_map, zip}
use Rattle.decode_jobs.specs.Keys.{Key}
use Rattle.picture_keys.specs.Known.{keys_of}
use Rattle.picture_store.specs.Marks.{AreMarked, marked_for}
use Rattle.picture_store.proofs.Marked.{keys_listed, listed_live}
use Rattle.picture_store.proofs.Viewed.{Marked, viewed}
use Rattle.picture_store.proofs.store.PictureStore.mark.Goals as goal

pub invariant_of-self : goal.invariant_of-self
invariant_of-self g c =
    let s = c.self.inside in
    let marked : c.in_ok-mark.mark ≡ filter_map (λ number. number) s.numbers.items =
    rw (c.deref.ensures.value) at c.in_ok-mark.ensures in
    record {
      kept = c.self.invariant.kept;
      counted = c.self.invariant.counted;
      apart = c.self.invariant.apart;
      settled = c.self.invariant.settled;
      searched = c.self.invariant.searched;
      behind = c.self.invariant.behind;
      scheduled = c.self.invariant.scheduled;
      marked =
          subst (λ numbers. AreMarked s.keys (Some numbers)) (sym marked)
          (listed_live s.keys s.numbers.items (keys_of (zip s.ids.items s.outcomes.items)) c.self.invariant.kept.stand);
    }

pub returns-clause-ok : goal.returns-clause-ok
returns-clause-ok g c =
    let s = c.self.inside in
    let marked : c.in_ok-mark.mark ≡ filter_map (λ number. number) s.numbers.items =
    rw (c.deref.ensures.value) at c.in_ok-mark.ensures in
    let seen : marked_for s.keys (Some c.in_ok-mark.mark)
    ≡ Some (filter_map (λ key. key) (keys_of (zip s.ids.items s.outcomes.items))) =
    ap (λ numbers. marked_for s.keys (Some numbers)) marked
    ∙ ap (λ (keys : List Key). Some keys)
    (keys_listed s.keys s.numbers.items (keys_of (zip s.ids.items s.outcomes.items)) c.self.invariant.kept.stand) in
    rw (← c.self.view_is)
    (ap (λ (marked : Marked). viewed s.keys s.ids.items s.outcomes.items s.numbers.items s.key_slots s.cache.pairs s.cache.capacity s.jobs_out.items s.jobs_given s.released.items marked) seen)
