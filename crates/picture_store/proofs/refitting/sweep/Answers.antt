use Rattle.std.proofs.Common.{Contains, sym, subst, inl, inr}
use Rattle.picture_store.specs.Marks.{numbers_marked}
use Rattle.picture_store.proofs.Swept.{root_stays, swept_all}
use Rattle.picture_store.proofs.refitting.sweep.Goals as goal

pub returns-clause-stay : goal.returns-clause-stay
returns-clause-stay g c = λ number key stored there.
    root_stays c.sweep.result c.args.keys.now c.sweep.new.self c.deref.result.now c.sweep.ensures.ok c.sweep.ensures.err
    number key (subst (λ xs. Contains xs number) (sym c.deref.ensures.value) ((c.in_ok-roots.ensures number).1 (inr stored))) there

pub returns-clause-marks : goal.returns-clause-marks
returns-clause-marks g c = λ number key marked there.
    root_stays c.sweep.result c.args.keys.now c.sweep.new.self c.deref.result.now c.sweep.ensures.ok c.sweep.ensures.err
    number key (subst (λ xs. Contains xs number) (sym c.deref.ensures.value) ((c.in_ok-roots.ensures number).1 (inl marked))) there

pub returns-clause-swept : goal.returns-clause-swept
returns-clause-swept g c =
    swept_all c.sweep.result c.args.numbers.now (numbers_marked c.args.mark.now) c.args.cache.now.pairs c.args.out.now c.args.keys.now
    c.sweep.new.self c.deref.result.now (λ number. rw (c.deref.ensures.value) (c.in_ok-roots.ensures number)) c.sweep.ensures.ok
