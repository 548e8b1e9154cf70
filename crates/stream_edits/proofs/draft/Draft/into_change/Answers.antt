use Rattle.std.proofs.Common.{◌≡◌, ◌-◌, length, take, drop, refl, ap, ◌∙◌, arith}
use Rattle.stream_edits.proofs.Drafted.{IsForAll-draft}
use Rattle.stream_edits.proofs.draft.Draft.into_change.Goals as goal

pub returns-clause-change : goal.returns-clause-change
returns-clause-change c ids_given edits is sized =
    let front = rw (c.deref.ensures.value) at c.common_front-at.ensures in
    let rest = rw (c.deref-2.ensures.value) at c.common_rest-rest.ensures in
    let long : c.len.result ≡ length c.args.self.units.items = omega (arith, c.len.ensures, c.args.self.units.ok.0) in
    IsForAll-draft (record { ids_given = ids_given; stream = c.args.units.now }) edits c.args.self c.common_rest-rest.result _ is sized front rest refl
    (c.between.ensures
    ∙ ap (λ n. drop c.common_front-at.result (take (n - c.common_rest-rest.result) c.args.self.units.items)) long)
    refl refl
