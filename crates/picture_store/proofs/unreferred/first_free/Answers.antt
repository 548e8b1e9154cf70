use Rattle.std.proofs.Common.{All, subst}
use Rattle.std.proofs.lemmas.List.{take_all}
use Rattle.std.proofs.lemmas.List.Elements.{All-more}
use Rattle.picture_store.specs.Unreferred.{IsFree}
use Rattle.picture_store.proofs.unreferred.first_free.Goals as goal

pub loop-at-preserved : goal.loop-at-preserved
loop-at-preserved g c =
    All-more (λ picture. IsFree c.args.jobs.now picture → ⊥) c.args.pictures.now c.loop-at.at c.index-pictures-at.result
    c.loop-at-test.true c.loop-at.invariant
    (subst (λ picture. IsFree c.args.jobs.now picture → ⊥) c.index-pictures-at.is
    (λ free. let answer = c.is_free.ensures.1 free in cc))

pub returns : goal.returns
returns g c =
    subst (λ pictures. All (λ picture. IsFree c.args.jobs.now picture → ⊥) pictures)
    (take_all c.loop-at.at c.args.pictures.now c.loop-at-test.false) c.loop-at.invariant
