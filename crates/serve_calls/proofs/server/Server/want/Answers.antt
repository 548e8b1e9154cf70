use Rattle.std.proofs.Common.{◌∙◌, List, ℕ, subst}
use Rattle.serve_calls.specs.Wanting.{WantsAs}
use Rattle.serve_calls.proofs.server.Server.want.Goals as goal

pub returns-clause-answers : goal.returns-clause-answers
returns-clause-answers g c = subst (λ (ids : List ℕ). WantsAs g.B.LendsSession.is_session c.args.self.now c.args.wanted.now.items ids c.args.is_answered
    c.want_all.result c.want_all.new.self c.want_all.new.wanted.items)
    (c.as_slice.ensures.value ∙ c.into_items-numbers.ensures) c.want_all.ensures.answers
