use Rattle.std.proofs.Common.{refl, ap, ◌∙◌}
use Rattle.std.specs.Prelude.{option_map}
use Rattle.held_pictures.proofs.Accounts.{put_accounts}
use Rattle.held_pictures.proofs.Puts.{put_entries-is, IsBounded-with_first}
use Rattle.held_pictures.proofs.picture_cache.cache.PictureCache.put.Goals.{in-Ok, in-Err}
use Rattle.held_pictures.proofs.picture_cache.cache.PictureCache.put.Goals as goal

pub invariant_of-self : goal.invariant_of-self
invariant_of-self g c =
    let eq = g.K.PartialEq.eq in
    let old = c.self.inside.cache in
    let is = c.self.invariant.1 in
    elim c.match-push.branch [
      | in-Ok w ↦
          rw (w.in-Ok.ensures.entries, put_entries-is eq c.self.invariant.0 c.args.key c.args.picture old.entries old.cap is.within is.least)
          (c.self.invariant.0, IsBounded-with_first eq c.self.invariant.0 c.args.key c.args.picture (record { pairs = old.entries; capacity = old.cap }) is)
      | in-Err w ↦ rw (w.in-Err.ensures.err) c.self.invariant
    ]

pub returns-clause-ok : goal.returns-clause-ok
returns-clause-ok g c =
    let eq = g.K.PartialEq.eq in
    let old = c.self.inside.cache in
    let is = c.self.invariant.1 in
    elim c.match-push.branch [
      | in-Ok w ↦
          rw (w.result-is, ← c.self.view_is, w.in-Ok.ensures.entries, put_entries-is eq c.self.invariant.0 c.args.key c.args.picture old.entries old.cap is.within is.least)
          (refl, w.second.ensures ∙ ap (option_map (λ pair. pair.1)) w.in-Ok.ensures.old)
      | in-Err w ↦ rw (w.result-is) tt
    ]

pub returns-clause-bounded : goal.returns-clause-bounded
returns-clause-bounded g c = (invariant_of-self g c).1

pub returns-clause-accounts : goal.returns-clause-accounts
returns-clause-accounts g c =
    let eq = g.K.PartialEq.eq in
    let old = c.self.inside.cache in
    let is = c.self.invariant.1 in
    elim c.match-push.branch [
      | in-Ok w ↦
          rw (w.result-is, w.second.ensures, w.in-Ok.ensures.old, ← c.self.view_is, w.in-Ok.ensures.entries, put_entries-is eq c.self.invariant.0 c.args.key c.args.picture old.entries old.cap is.within is.least)
          (put_accounts eq c.args.key c.args.picture (record { pairs = old.entries; capacity = old.cap }) is.within is.least)
      | in-Err w ↦ rw (w.result-is) tt
    ]
