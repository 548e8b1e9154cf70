use Rattle.std.proofs.Common.{◌≡◌, ℕ, ◌+◌, length, ap, ◌∙◌, arith}
use Rattle.std.specs.Prelude.{unwrap_or}
use Rattle.stream_fold.proofs.Committed.{stays_of, can_shift_as, folded_by}
use Rattle.stream_fold.proofs.Reaching.{resume_point_after}
use Rattle.stream_fold.proofs.folded.Folded.commit.Goals as goal

pub store_anew-requires-clause-apart : goal.store_anew-requires-clause-apart
store_anew-requires-clause-apart c =
    let prepared = rw (← c.self.view_is) at c.requires in
    let long : c.len-end.result ≡ length c.self.inside.units.items = omega (arith, c.len-end.ensures, c.self.inside.units.ok.0) in
    let stays : c.unwrap_or.result ≡ stays_of c.self.inside.units.items c.args.prepared.met =
    c.unwrap_or.ensures ∙ ap (λ (n : ℕ). unwrap_or c.args.prepared.met (n + 1)) long in
    can_shift_as c.args.prepared.change c.self.inside.units.items c.self.inside.stored.states c.self.inside.end
    c.self.invariant.0 prepared.inside c.args.prepared.fold c.args.prepared.met prepared.made c.unwrap_or.result c.length_change.result stays
    c.length_change.ensures prepared.short

pub invariant_of-self : goal.invariant_of-self
invariant_of-self c =
    let prepared = rw (← c.self.view_is) at c.requires in
    let long : c.len-end.result ≡ length c.self.inside.units.items = omega (arith, c.len-end.ensures, c.self.inside.units.ok.0) in
    let stays : c.unwrap_or.result ≡ stays_of c.self.inside.units.items c.args.prepared.met =
    c.unwrap_or.ensures ∙ ap (λ (n : ℕ). unwrap_or c.args.prepared.met (n + 1)) long in (
      folded_by c.args.prepared.change c.self.inside.units.items c.self.inside.stored.states c.self.inside.end
          c.self.invariant.0 prepared.inside c.args.prepared.fold c.args.prepared.met prepared.made c.keep_end.new.end c.keep_end.ensures.none
          c.keep_end.ensures.some c.make.new.units.items c.store_anew.new.stored.states c.thin.new.stored.states c.thin-2.new.stored.states
          c.unwrap_or.result c.length_change.result c.make.ensures c.store_anew.ensures stays c.length_change.ensures c.thin.ensures
          c.thin-2.ensures,
      rw (c.make.ensures) (resume_point_after c.args.prepared.change c.self.inside.units.items prepared.inside c.args.prepared.resume_point prepared.resume_point),
    )
