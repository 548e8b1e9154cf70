use Rattle.decode_jobs.proofs.Kept.{kept_map}
use Rattle.decode_jobs.proofs.Swept.{swept, swept_kept}
use Rattle.decode_jobs.proofs.dep_keys.keys.Keys.sweep.Goals as goal

pub returns-in_err-marks-clause-map : goal.returns-in_err-marks-clause-map
returns-in_err-marks-clause-map g c =
    rw (← c.self.view_is) (kept_map g.F.Fingerprint.digest c.self.inside.slots.items c.self.inside.numbers c.self.inside.index c.self.invariant)

pub index_of-requires : goal.index_of-requires
index_of-requires g c = rw c.deref-2.ensures.value c.self.invariant.indexed

pub returns-in_err-index-clause-map : goal.returns-in_err-index-clause-map
returns-in_err-index-clause-map g c =
    rw (← c.self.view_is) (kept_map g.F.Fingerprint.digest c.self.inside.slots.items c.self.inside.numbers c.self.inside.index c.self.invariant)

pub returns-in_err-keep-clause-map : goal.returns-in_err-keep-clause-map
returns-in_err-keep-clause-map g c =
    kept_map g.F.Fingerprint.digest c.self.inside.slots.items c.self.inside.numbers c.self.inside.index c.self.invariant

pub invariant_of-self-2 : goal.invariant_of-self-2
invariant_of-self-2 g c =
    rw (
      c.keep_marked.ensures,
      c.in_ok-keep.ensures.ok,
      c.in_ok-index.ensures,
      c.deref-5.ensures.value,
      c.deref-4.ensures.value,
      c.deref-3.ensures.value,
      c.deref-2.ensures.value,
      c.in_ok-marks.ensures,
      c.deref.ensures.value,
    )
    (swept_kept g.F.Fingerprint.digest c.self.inside.slots.items c.self.inside.numbers c.self.inside.index c.self.invariant
    c.bound.result c.bound.ensures c.args.roots.now)

pub returns-clause-ok : goal.returns-clause-ok
returns-clause-ok g c =
    rw (c.keep_marked.ensures, c.deref-5.ensures.value, c.in_ok-marks.ensures, c.deref.ensures.value, ← c.self.view_is)
    (swept g.F.Fingerprint.digest c.self.inside.slots.items c.self.inside.numbers c.self.inside.index c.self.invariant
    c.bound.result c.bound.ensures c.args.roots.now)

pub returns-clause-map : goal.returns-clause-map
returns-clause-map g c =
    rw (c.keep_marked.ensures, c.deref-5.ensures.value, c.in_ok-marks.ensures, c.deref.ensures.value)
    (kept_map g.F.Fingerprint.digest _ _ _
    (swept_kept g.F.Fingerprint.digest c.self.inside.slots.items c.self.inside.numbers c.self.inside.index c.self.invariant
    c.bound.result c.bound.ensures c.args.roots.now))
